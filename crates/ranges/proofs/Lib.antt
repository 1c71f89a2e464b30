pub mod First
pub mod SpanIn
