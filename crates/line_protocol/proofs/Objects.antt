-- Numbers within values.
use Rattle.std.proofs.Common.{◌≡◌, Bool, true, false, ◌||◌, ℕ, List, Option, Some, Ordering, Less, Equal, Greater, ap, ◌∙◌, refl}
use Rattle.std.specs.Cmp.Lexicographic.{slice_cmp}
use Rattle.std.specs.Ordering.{match_ordering, nat_cmp}
use Rattle.serde_json.specs.Data.{Data, null, boolean, number, string, array, object, Members, no_members, member}
use Rattle.serde_json.specs.Find.{get, get_member}
use Rattle.serde_json.specs.Written.{has_float, members_have_float}

or_left : (a b : Bool) → (a || b) ≡ false → a ≡ false
or_left true b h = h
or_left false b h = refl

or_right : (a b : Bool) → (a || b) ≡ false → b ≡ false
or_right true b h = cc
or_right false b h = h

whole_at : (o : Ordering) (e d : Data) (rest : Option Data) → has_float e ≡ false → ((x : Data) → rest ≡ Some x → has_float x ≡ false) → match_ordering o rest (Some e) rest ≡ Some d → has_float d ≡ false
whole_at Less e d rest here there is = there d is
whole_at Equal e d rest here there is = let same : d ≡ e = cc in ap has_float same ∙ here
whole_at Greater e d rest here there is = there d is

member_whole : (name : List ℕ) (ms : Members) → members_have_float ms ≡ false → (d : Data) → get_member name ms ≡ Some d → has_float d ≡ false
member_whole name no_members whole d is = absurd cc
member_whole name (member l e ms) whole d is =
    whole_at (slice_cmp nat_cmp name l) e d (get_member name ms) (or_left _ _ whole) (member_whole name ms (or_right (has_float e) _ whole)) is

-- what is found in a value whose numbers are whole has whole numbers
pub found_whole : (name : List ℕ) (v d : Data) → has_float v ≡ false → get name v ≡ Some d → has_float d ≡ false
found_whole name null d whole is = absurd cc
found_whole name (boolean b) d whole is = absurd cc
found_whole name (number n) d whole is = absurd cc
found_whole name (string s) d whole is = absurd cc
found_whole name (array ds) d whole is = absurd cc
found_whole name (object ms) d whole is = member_whole name ms whole d is
