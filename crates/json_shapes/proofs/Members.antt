-- An object's members after one was taken out.
use Rattle.std.proofs.Common.{◌≡◌, ℕ, Bool, true, false, cond, List, [], ◌∷◌, Some, string_bytes, nat_cmp, is_eq, refl, sym, ap, ◌∙◌}
use Rattle.std.proofs.lemmas.Map.Text.{is_eq-slice_cmp}
use Rattle.std.proofs.lemmas.Slice.Eq.{bytes_eq-Decides}
use Rattle.std.specs.BTreeMap.{is_at}
use Rattle.std.specs.Map.{remove_entry}
use Rattle.std.specs.Cmp.Lexicographic.{slice_cmp}
use Rattle.std.specs.Ordering.{match_ordering}
use Rattle.serde_json.specs.Find.{get_member}
use Rattle.serde_json.specs.View.{view, members_view}
use Rattle.serde_json.proofs.Views.{Entry, member_later}

head_kept : (other : List ℕ) (e : Entry) (es fs : List Entry) → get_member other (members_view es) ≡ get_member other (members_view fs)
    → get_member other (members_view (e ∷ es)) ≡ get_member other (members_view (e ∷ fs))
head_kept other e es fs same = ap (λ r. match_ordering (slice_cmp nat_cmp other (string_bytes e.0)) r (Some (view e.1)) r) same

taken_or_kept : (test : Bool) (name other : List ℕ) (e : Entry) (es fs : List Entry) → is_eq (slice_cmp nat_cmp name (string_bytes e.0)) ≡ test → (other ≡ name → ⊥)
    → get_member other (members_view fs) ≡ get_member other (members_view es)
    → get_member other (members_view (cond test es (e ∷ fs))) ≡ get_member other (members_view (e ∷ es))
taken_or_kept true name other e es fs is apart same =
    let key : name ≡ string_bytes e.0 = (bytes_eq-Decides name (string_bytes e.0)).0 (sym (is_eq-slice_cmp name (string_bytes e.0)) ∙ is) in
    sym (member_later other e es (λ h. apart (h ∙ sym key)))
taken_or_kept false name other e es fs is apart same = head_kept other e fs es same

-- other names find what they found before
pub others_kept : (name other : List ℕ) (es : List Entry) → (other ≡ name → ⊥)
    → get_member other (members_view (remove_entry (is_at (λ k. slice_cmp nat_cmp name (string_bytes k))) es)) ≡ get_member other (members_view es)
others_kept name other [] apart = refl
others_kept name other (e ∷ es) apart = taken_or_kept _ name other e es _ refl apart (others_kept name other es apart)
