-- What a set of texts has when one more was put into it.
use Rattle.std.proofs.Common.{◌≡◌, ℕ, List, Bool, true, false, cond, not, Ok, refl, sym, ap, subst, ◌∙◌, bytes_eq}
use Rattle.std.specs.Borrow.{Bor}
use Rattle.std.specs.List.{list_any}
use Rattle.std.specs.Ordering.{is_eq, nat_cmp}
use Rattle.std.specs.Cmp.{eq_by_cmp_equiv}
use Rattle.std.specs.Cmp.Lexicographic.{slice_cmp, nat_list_cmp_total, nat_list_eq_equiv}
use Rattle.std.specs.BTreeSet.{BTreeSet, UpdatesBy}
use Rattle.std.specs.Set.{KeepsOthers}
use Rattle.std.proofs.lemmas.Map.Text.{is_eq-slice_cmp}
use Rattle.std.proofs.lemmas.Slice.Eq.{bytes_eq-Decides}
use Rattle.wasm_types.specs.declared.kind.ValidKind.TheVariants.{ExportTwice}
use Rattle.wasm_types.specs.Plain.{PlainModule, PlainExport}
use Rattle.wasm_types.specs.Typing.{needs}
use Rattle.wasm_types.specs.Validity.{ext_kept, export_kept}
use Rattle.wasm_valid.specs.Names.{has_name, HasNames}

apart_in_order : (bs cs ks : List ℕ) → bytes_eq bs cs ≡ false → is_eq (slice_cmp nat_cmp bs ks) ≡ true → is_eq (slice_cmp nat_cmp cs ks) ≡ false
apart_in_order bs cs ks n y =
    is_eq-slice_cmp cs ks ∙ nat_list_eq_equiv.symm cs ks ∙ sym (nat_list_eq_equiv.congr bs ks cs (sym (is_eq-slice_cmp bs ks) ∙ y)) ∙ n

module _ (bs : List ℕ) (old new : BTreeSet (Bor (List ℕ))) where
  abbrev Put : Type 0
  Put = UpdatesBy (λ (x y : Bor (List ℕ)). slice_cmp nat_cmp x.now y.now) (λ (k : Bor (List ℕ)). slice_cmp nat_cmp bs k.now) old new true

  other_name : Put → (x : List ℕ) → bytes_eq bs x ≡ false → has_name new x ≡ has_name old x
  unfolding KeepsOthers
  other_name put x n =
      put.3 (λ (k : Bor (List ℕ)). is_eq (slice_cmp nat_cmp x k.now)) (λ k l. (eq_by_cmp_equiv nat_list_cmp_total).congr x k.now l.now) (λ k. apart_in_order bs x k.now n)

  pub put_name : Put → (x : List ℕ) → has_name new x ≡ cond (bytes_eq bs x) true (has_name old x)
  put_name put x = go (bytes_eq bs x) refl
    where
      go : (b : Bool) → bytes_eq bs x ≡ b → has_name new x ≡ cond b true (has_name old x)
      go true e = subst (λ (y : List ℕ). has_name new y ≡ true) ((bytes_eq-Decides bs x).0 e) put.1
      go false e = other_name put x e

-- an export of something that is there is in order where its name is new
pub is_kept : (m : PlainModule) (earlier : List PlainExport) (e : PlainExport) (names : BTreeSet (Bor (List ℕ))) (name : List ℕ) (new : Bool)
    → ext_kept m e.ext ≡ Ok tt → name ≡ e.name → HasNames names earlier → new ≡ not (has_name names name) → export_kept m earlier e ≡ needs ExportTwice new
is_kept m earlier e names name new there same has is =
    let new_is : not (list_any (λ (other : PlainExport). bytes_eq other.name e.name) earlier) ≡ new =
    sym (is ∙ ap not (has name ∙ ap (λ (n : List ℕ). list_any (λ (other : PlainExport). bytes_eq other.name n) earlier) same)) in
    rw there (ap (needs ExportTwice) new_is)
