-- The lines of a track, to the letter, and texts that are read as no track.
use Rattle.std.proofs.Common.{◌≡◌, ℕ, List, ◌++◌, None, Some, refl, codes}
use Rattle.std.specs.Fmt.{digits}
use Rattle.rbc_model.specs.TrackLines.{track_lines, read_track_lines}
use Rattle.rbc_examples.specs.Places.{double}

-- a text of a track, of which four words are given: the metres of the second section, a gradient of the third, a leg, and the end
abbrev text : List ℕ → List ℕ → List ℕ → List ℕ → List ℕ
text metres grade leg end =
    codes "track 1 31 31\n"
    ++ codes "section S1 1000\n"
    ++ codes "speeds S1 0:100\n"
    ++ codes "grades S1 0:-5\n"
    ++ (codes "section S2 " ++ metres ++ codes "\n")
    ++ codes "speeds S2 0:120 200:160\n"
    ++ codes "grades S2 0:3\n"
    ++ codes "section S3 300\n"
    ++ codes "speeds S3 0:40\n"
    ++ (codes "grades S3 0:" ++ grade ++ codes "\n")
    ++ codes "link S1+ S2+\n"
    ++ codes "group 5/17 S1+ 0\n"
    ++ codes "group 5/18 S2- 100\n"
    ++ codes "route Along - S1+\n"
    ++ codes "route Onward S1+ S2+\n"
    ++ (codes "route Back - " ++ leg ++ codes " S1-\n")
    ++ codes "route Apart - S3+\n"
    ++ end

written : track_lines double ≡ text (codes "500") (codes "0") (codes "S2-") (codes "done\n")
unfolding digits
written = refl

read : read_track_lines (text (codes "500") (codes "0") (codes "S2-") (codes "done\n")) ≡ Some double
unfolding digits
read = refl

-- a leading zero, `-0`, two spaces, no line feed at the end, and nothing at the end
leading_zero : read_track_lines (text (codes "0500") (codes "0") (codes "S2-") (codes "done\n")) ≡ None
unfolding digits
leading_zero = refl

minus_zero : read_track_lines (text (codes "500") (codes "-0") (codes "S2-") (codes "done\n")) ≡ None
unfolding digits
minus_zero = refl

two_spaces : read_track_lines (text (codes " 500") (codes "0") (codes "S2-") (codes "done\n")) ≡ None
unfolding digits
two_spaces = refl

no_line_feed : read_track_lines (text (codes "500") (codes "0") (codes "S2-") (codes "done")) ≡ None
unfolding digits
no_line_feed = refl

no_end : read_track_lines (text (codes "500") (codes "0") (codes "S2-") (codes "")) ≡ None
unfolding digits
no_end = refl

-- a route against its links, and one over a section that is not there: no sound track
not_linked : read_track_lines (text (codes "500") (codes "0") (codes "S3-") (codes "done\n")) ≡ None
unfolding digits
not_linked = refl

no_section : read_track_lines (text (codes "500") (codes "0") (codes "S4-") (codes "done\n")) ≡ None
unfolding digits
no_section = refl
