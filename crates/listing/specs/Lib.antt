pub mod Text
pub mod Range
pub mod Listing
pub mod Boxes
pub mod Ends
pub mod Worked
