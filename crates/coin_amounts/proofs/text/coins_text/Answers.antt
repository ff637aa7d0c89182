use Rattle.std.proofs.Common.{◌≡◌, ℕ, ◌+◌, ◌<◌, ◌≤◌, List, [], ◌∷◌, ◌++◌, length, take, get_or, map, string_bytes, refl, sym, ap, ◌∙◌, append_assoc, append-nil, arith}
use Rattle.std.specs.List.{join_with_byte}
use Rattle.std.proofs.lemmas.List.{take_more, map-append, length-map, length-take-le}
use Rattle.coin_amounts.specs.declared.coin.Coin as coin_type
use Rattle.coin_amounts.specs.Plain.{coin_view}
use Rattle.coin_amounts.specs.Text.{coin_text}
use Rattle.coin_amounts.proofs.text.coins_text.Goals as goal
use Rattle.coin_amounts.proofs.text.coins_text.Goals.{then-place-gt0+in_ok-push, else-place-gt0}

-- what stands between some pieces and one more
abbrev comma_after : List (List ℕ) → List ℕ
comma_after [] = []
comma_after (x ∷ xs) = 44 ∷ []

join_push : (xs : List (List ℕ)) (y : List ℕ) → join_with_byte 44 (xs ++ y ∷ []) ≡ (join_with_byte 44 xs ++ comma_after xs) ++ y
join_push [] y = refl
join_push (x ∷ []) y = sym (append_assoc x (44 ∷ []) y)
join_push (x ∷ z ∷ zs) y =
    let rest = join_push (z ∷ zs) y ∙ append_assoc (join_with_byte 44 (z ∷ zs)) (44 ∷ []) y in
    let whole = append_assoc x (44 ∷ join_with_byte 44 (z ∷ zs)) (44 ∷ y) in
    ap (λ l. x ++ (44 ∷ l)) rest ∙ sym whole ∙ sym (append_assoc (x ++ (44 ∷ join_with_byte 44 (z ∷ zs))) (44 ∷ []) y)

comma_some : (xs : List (List ℕ)) → 0 < length xs → comma_after xs ≡ 44 ∷ []
comma_some [] some = absurd (omega arith)
comma_some (x ∷ xs) some = refl

comma_none : (xs : List (List ℕ)) → length xs ≤ 0 → comma_after xs ≡ []
comma_none [] none = refl
comma_none (x ∷ xs) none = absurd (omega arith)

-- the texts of the coins below a place
abbrev pieces : List coin_type.Coin → ℕ → List (List ℕ)
pieces items place = map coin_text (map coin_view (take place items))

length-pieces : (items : List coin_type.Coin) (place : ℕ) → place < length items → length (pieces items place) ≡ place
length-pieces items place within = simp length-map (length-take-le place items (omega arith))

pieces_more : (items : List coin_type.Coin) (place : ℕ) (item : coin_type.Coin) → place < length items → item ≡ get_or items place item → pieces items (place + 1) ≡ pieces items place ++ coin_text (coin_view item) ∷ []
pieces_more items place item within is =
    ap (λ l. map coin_text (map coin_view l)) (take_more items place item within) ∙ simp (map-append, ← is)

-- the text with one more coin, after what stands between
text_more : (items : List coin_type.Coin) (place : ℕ) (item : coin_type.Coin) (before : List ℕ) → place < length items → item ≡ get_or items place item → before ≡ join_with_byte 44 (pieces items place) → (before ++ comma_after (pieces items place)) ++ coin_text (coin_view item) ≡ join_with_byte 44 (pieces items (place + 1))
text_more items place item before within is written =
    ap (λ l. (l ++ comma_after (pieces items place)) ++ coin_text (coin_view item)) written ∙ sym (ap (join_with_byte 44) (pieces_more items place item within is) ∙ join_push (pieces items place) (coin_text (coin_view item)))

pub loop-place-preserved : goal.loop-place-preserved
loop-place-preserved c =
    let items = c.deref-coin-items.result.now in
    let place = c.loop-place.place in
    let item = c.coin-item.result in
    let more = text_more items place item (string_bytes c.loop-place.text) c.loop-place-test.true c.coin-item.is c.loop-place.invariant in
    let count = length-pieces items place c.loop-place-test.true in
    elim c.if-place-gt0.branch [
      | then-place-gt0+in_ok-push w ↦
          let comma = comma_some (pieces items place) (omega arith) in
          let pushed = ap string_bytes w.text-is ∙ w.in_ok-push.ensures.bytes ∙ ap (λ l. string_bytes c.loop-place.text ++ l) (w.in_ok-push.ensures.ascii (omega arith) ∙ sym comma) in
          c.in_ok-write.ensures.bytes ∙ ap (λ l. l ++ coin_text (coin_view item)) pushed ∙ more
      | else-place-gt0 w ↦
          let comma = comma_none (pieces items place) (omega arith) in
          let same = ap string_bytes w.text-is ∙ sym (append-nil (string_bytes c.loop-place.text)) ∙ ap (λ l. string_bytes c.loop-place.text ++ l) (sym comma) in
          c.in_ok-write.ensures.bytes ∙ ap (λ l. l ++ coin_text (coin_view item)) same ∙ more
    ]
