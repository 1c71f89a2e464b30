-- The drawing of a motion table, an SVG with y upward: the control polygon, and each nonempty span's box in parts.
-- Assumes nothing.
use Rattle.std.specs.Prelude.{Result}
use Rattle.bounds.specs.declared.answer.NurbsBounds.{NurbsBounds}
use Rattle.knots.specs.declared.refusal.Refusal.{Refusal}
use Rattle.std.specs.Prelude.{ℕ, zero, suc, ◌+◌, ◌-◌, ◌/◌, Bool, true, false, ◌&&◌, cond, List, [], ◌∷◌, ◌++◌, eqb, ltb, length, pos, Float}
use Prim.Native.String.{String}
use Rattle.std.specs.Float.{inf, binary64}
use Rattle.std.specs.Float.Ieee.{neg, lt, add, sub, mul, div, of_int}
use Rattle.std.specs.Float.Ieee.Scale.{finite}
use Rattle.doubles.specs.Run.{at}
use Rattle.doubles.specs.Neighbour.{next_down, fmin}
use Rattle.doubles.specs.Value.{zero+, one+}
use Rattle.interval.specs.declared.Interval.{Interval}
use Rattle.knots.specs.Curve.{count_of}
use Rattle.runs.specs.Coordinate.{coordinate}
use Rattle.bounds.specs.Start.{min_from, max_from}
use Rattle.bounds.specs.Curve.{bound_at}
use Rattle.bounds.specs.Numbers.{bounded_refusal, bounded_values}
use Rattle.decimals.specs.Ascii.{ascii}
use Rattle.decimals.specs.Text.{decimal}
use Rattle.decimals.specs.Fixed.{fixed}
use Rattle.listing.specs.Listing.{listing}
use Rattle.bounds.specs.Eighteen.{triple_by}
use Rattle.drawing.specs.declared.View.{View}

-- ---- what is in view

unfoldable pub least_of : List Float → ℕ → Float
least_of ps k = min_from (inf false) (λ i. coordinate ps i k) (count_of ps)

unfoldable pub greatest_of : List Float → ℕ → Float
greatest_of ps k = max_from (inf true) (λ i. coordinate ps i k) (count_of ps)

-- how much is in view from lo on: up to hi, but no infinity; 1 where there is nothing between
unfoldable pub extent_of : Float → Float → Float
extent_of lo hi = let d = sub binary64 hi lo in cond (lt zero+ d) (fmin d (next_down (inf false))) one+

-- left end, top with its sign turned, width and height
unfoldable pub view_of : List Float → View
view_of ps = record {
  x = least_of ps 0;
  y = neg (greatest_of ps 1);
  width = extent_of (least_of ps 0) (greatest_of ps 0);
  height = extent_of (least_of ps 1) (greatest_of ps 1);
}

-- ---- the frame

-- a text and a decimal behind it
unfoldable pub number : String → Bool → Float → List ℕ
number lead above x = ascii lead ++ fixed above x

-- up to the view
abbrev pub opening : String
opening = "<svg xmlns=\"http://www.w3.org/2000/svg\" width=\"1200\" height=\"600\">\n<svg x=\"60\" y=\"30\" width=\"1080\" height=\"540\" overflow=\"visible\" preserveAspectRatio=\"none\" viewBox=\""

-- from the view to the points
abbrev pub polygon : String
polygon = "\">\n<g transform=\"scale(1,-1)\" fill=\"none\">\n<polyline vector-effect=\"non-scaling-stroke\" stroke=\"blue\" points=\"\n"

unfoldable pub head_text : View → List ℕ
head_text v = number opening false v.x ++ (number " " false v.y ++ (number " " true v.width ++ (number " " true v.height ++ ascii polygon)))

-- a point of the control polygon
unfoldable pub point_text : Float → Float → List ℕ
point_text x y = fixed false x ++ (number "," false y ++ (10 ∷ []))

-- from the points to the boxes
unfoldable pub middle_text : List ℕ
middle_text = ascii "\"/>\n<g stroke=\"red\">\n"

unfoldable pub tail_text : List ℕ
tail_text = ascii "</g></g></svg></svg>\n"

-- ---- a box

-- a text and a whole number behind it
unfoldable pub label : String → ℕ → List ℕ
label lead n = ascii lead ++ decimal n

-- the part j of the span s
unfoldable pub part_text : String → ℕ → ℕ → List ℕ
part_text lead s j = label lead s ++ label "-" j

unfoldable pub both_finite : Interval → Interval → Bool
both_finite x y = ((finite x.lo && finite x.hi) && finite y.lo) && finite y.hi

-- the sides of a box, by its left, bottom, right and top
unfoldable pub sides_text : Float → Float → Float → Float → List ℕ
sides_text l b r t = number " d=\"M" false l ++ (number " " false b ++ (number "H" true r ++ (number "V" true t ++ (number "H" false l ++ ascii "Z\"/>\n"))))

unfoldable pub path_text : ℕ → ℕ → Interval → Interval → List ℕ
path_text s j x y = part_text "<path id=\"span" s j ++ (ascii "\" vector-effect=\"non-scaling-stroke\"" ++ sides_text x.lo y.lo x.hi y.hi)

unfoldable pub refused_text : ℕ → ℕ → ℕ → List ℕ
refused_text s j n = part_text "<!-- span " s j ++ (label " refused " n ++ ascii " -->\n")

unfoldable pub unbounded_text : ℕ → ℕ → List ℕ
unbounded_text s j = part_text "<!-- span " s j ++ ascii " unbounded -->\n"

-- a path, or, where there is none to draw, why: a bound that is refused has no values
abbrev pub box_text : ℕ → ℕ → Result NurbsBounds Refusal → List ℕ
box_text s j a =
    let vs = bounded_values a in
    let t = triple_by (at vs) 0 in cond (eqb (length vs) 0) (refused_text s j (bounded_refusal a).number) (cond (both_finite t.x t.y) (path_text s j t.x t.y) (unbounded_text s j))

-- ---- the parts of a span: bounds over a whole span are wide

-- how many, of a curve of n points: about a thousand boxes in all
unfoldable pub parts_of : ℕ → ℕ
parts_of n = cond (ltb n 1024) (1024 / (n + 1)) 1

-- j of k equal steps from a to b
unfoldable pub mark_of : Float → Float → ℕ → ℕ → Float
mark_of a b j k = cond (eqb j 0) a (cond (eqb j k) b (add binary64 a (mul binary64 (sub binary64 b a) (div binary64 (of_int binary64 (pos j)) (of_int binary64 (pos k))))))

-- what is behind the last part is the last
unfoldable pub part_of : ℕ → ℕ → ℕ
part_of k j = cond (ltb j k) j (k - 1)

-- the line of part j of k of a curve's span s
unfoldable pub part_line : ℕ → List Float → List Float → Bool → List Float → ℕ → ℕ → ℕ → List ℕ
part_line p ks ps r ws k j s = box_text s j (bound_at p s ks ps r ws (mark_of (at ks s) (at ks (s + 1)) j k) (mark_of (at ks s) (at ks (s + 1)) (j + 1) k))

unfoldable pub drawn_of : ℕ → List Float → List Float → Bool → List Float → ℕ → ℕ → List ℕ
drawn_of p ks ps r ws j s = part_line p ks ps r ws (parts_of (count_of ps)) (part_of (parts_of (count_of ps)) j) s

-- ---- the drawing

-- the lines of the k points from i on
unfoldable pub points_from : ℕ → List Float → ℕ → List ℕ
points_from zero ps i = []
points_from (suc k) ps i = point_text (coordinate ps i 0) (coordinate ps i 1) ++ points_from k ps (i + 1)

-- the lines of k parts of the span s, from j on
unfoldable pub parts_from : ℕ → (ℕ → ℕ → List ℕ) → ℕ → ℕ → List ℕ
parts_from zero line j s = []
parts_from (suc k) line j s = line j s ++ parts_from k line (j + 1) s

-- those of all its parts
unfoldable pub span_lines : ℕ → List Float → List Float → Bool → List Float → ℕ → List ℕ
span_lines p ks ps r ws s = parts_from (parts_of (count_of ps)) (drawn_of p ks ps r ws) 0 s

-- all that is printed of a curve of degree p
unfoldable pub drawing : ℕ → List Float → List Float → Bool → List Float → List ℕ
drawing p ks ps r ws =
    head_text (view_of ps) ++ (points_from (count_of ps) ps 0 ++ (middle_text ++ (listing (span_lines p ks ps r ws) p (count_of ps) ks ++ tail_text)))
