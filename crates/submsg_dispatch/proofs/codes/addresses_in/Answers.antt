use Rattle.std.proofs.Common.{◌≡◌, ◌∷◌, [], ◌+◌, List, ℕ, sym, ap, ◌∙◌, subst, map, drop, string_bytes}
use Rattle.std.specs.Prelude.{All}
use Rattle.std.proofs.lemmas.List.{drop_more, drop_all, map-append}
use Rattle.std.proofs.lemmas.List.Elements.{All-nil, All-push}
use Rattle.chain_records.specs.Keys.{IsAddress}
use Rattle.chain_records.specs.Records.{bytes_view, list_view}
use Rattle.chain_addr.specs.Address.{address_of}
use Rattle.submsg_dispatch.specs.Failures.{address_bad}
use Rattle.submsg_dispatch.specs.Messages.{addresses_of}
use Rattle.submsg_dispatch.proofs.Listing.{in_front, no_front, whole_front, next_address, no_next, passes_found, missed_then}
use Rattle.submsg_dispatch.proofs.codes.addresses_in.Goals as goal

pub loop-text-init : goal.loop-text-init
loop-text-init c =
    let texts = c.args.texts.now in
    let none : list_view c.in_ok-addresses.addresses ≡ [] = ap (map bytes_view) c.in_ok-addresses.ensures.items in
    record {
      found = sym (no_front (addresses_of c.args.prefix.now (map string_bytes texts))) ∙ ap (λ f. in_front f (addresses_of c.args.prefix.now (map string_bytes texts))) (sym none);
      addresses = subst (All IsAddress) (sym none) (All-nil IsAddress);
    }

pub loop-text-preserved : goal.loop-text-preserved
loop-text-preserved c =
    let items = c.args.texts.now in
    let prefix = c.args.prefix.now in
    let i = c.loop-text.text-index in
    let text = c.text-item.result in
    let rest : List (List ℕ) = map string_bytes (drop (i + 1) items) in
    let splits : map string_bytes (drop i items) ≡ string_bytes text ∷ rest = ap (map string_bytes) (drop_more items i text c.loop-text-test.true) ∙ ap (λ x. string_bytes x ∷ rest) (sym c.text-item.is) in
    let front = list_view c.loop-text.addresses in
    let so_far = rw splits at c.loop-text.invariant.found in
    let is = rw c.as_str.ensures.value at c.in_ok-address.ensures.found in
    let addr : List ℕ = c.in_ok-address.address.items in
    let pushed = ap (map bytes_view) c.in_ok-push.ensures.items ∙ map-append bytes_view c.loop-text.addresses.items (c.in_ok-address.address ∷ []) in
    record {
      found = so_far ∙ next_address prefix front (string_bytes text) rest addr is ∙ ap (λ (f : List (List ℕ)). in_front f (addresses_of prefix rest)) (sym pushed);
      addresses = subst (All IsAddress) (sym pushed) (All-push IsAddress front addr c.loop-text.invariant.addresses c.in_ok-address.ensures.address);
    }

pub returns-in_err-address-clause-found : goal.returns-in_err-address-clause-found
returns-in_err-address-clause-found c =
    let items = c.args.texts.now in
    let prefix = c.args.prefix.now in
    let i = c.loop-text.text-index in
    let text = c.text-item.result in
    let rest : List (List ℕ) = map string_bytes (drop (i + 1) items) in
    let splits : map string_bytes (drop i items) ≡ string_bytes text ∷ rest = ap (map string_bytes) (drop_more items i text c.loop-text-test.true) ∙ ap (λ x. string_bytes x ∷ rest) (sym c.text-item.is) in
    let front = list_view c.loop-text.addresses in
    let so_far = rw splits at c.loop-text.invariant.found in
    let miss = rw c.as_str.ensures.value at c.in_err-address.ensures.found in
    passes_found list_view address_bad (addresses_of prefix (map string_bytes items)) c.from_residual-in_err-address.result c.in_err-address.field-0.0 c.from_residual-in_err-address.ensures.1
    (missed_then address_bad c.in_err-address.field-0.0 (address_of prefix (string_bytes text)) (addresses_of prefix (map string_bytes items)) (λ none. so_far ∙ no_next prefix front (string_bytes text) rest none) miss)

pub returns-clause-found : goal.returns-clause-found
returns-clause-found c =
    let items = c.args.texts.now in
    let prefix = c.args.prefix.now in
    let none : map string_bytes (drop c.loop-text.text-index items) ≡ [] = ap (map string_bytes) (drop_all c.loop-text.text-index items c.loop-text-test.false) in
    let so_far = rw none at c.loop-text.invariant.found in
    so_far ∙ whole_front (list_view c.loop-text.addresses)
