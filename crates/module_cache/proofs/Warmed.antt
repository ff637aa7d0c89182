-- Codes that are to be pinned, one after the other.
use Rattle.std.proofs.Common.{◌≡◌, ℕ, Bool, true, false, ◌||◌, not, cond, List, [], ◌∷◌, ◌++◌, refl, sym, ap, ◌∙◌, append-nil}
use Rattle.std.proofs.lemmas.List.Elements.{filter-append}
use Rattle.std.proofs.lemmas.List.Sums.{fold-append}
use Rattle.std.proofs.lemmas.Map.Keys.{IsDistinct-head, IsDistinct-tail}
use Rattle.std.specs.Cmp.Lexicographic.{same_text, nat_list_eq_equiv}
use Rattle.std.specs.List.{filter, IsDistinct, AllByRecursion}
use Rattle.std.specs.Str.{bytes_eq}
use Rattle.gatekeeper.specs.Cache.{Tally, is_among, all_but, tallied, all_tallied, each_once, not_pinned, with_pins, warmed}
use Rattle.module_cache.specs.Pinning.{with_one_more, tally_with_one_more}
use Rattle.module_cache.proofs.Lists.{flip, none_to_close, not_among_others}
use Rattle.module_cache.proofs.Tallied.{tallied_pins}

same : (c x : List ℕ) → bytes_eq c x ≡ true → c ≡ x
same c x t = same_text c x (sym t)

-- a code isn't lost where another one is closed
among-all_but : (c x : List ℕ) (ds : List (List ℕ)) → bytes_eq x c ≡ false → is_among c (all_but x ds) ≡ is_among c ds
among-all_but c x [] h = refl
among-all_but c x (d ∷ ds) h =
    (elim (bytes_eq d x) as (λ b. bytes_eq d x ≡ b → is_among c (cond (not b) (d ∷ all_but x ds) (all_but x ds)) ≡ (bytes_eq d c || is_among c ds)) [
      | true ↦ λ t. among-all_but c x ds h ∙ ap (λ b. b || is_among c ds) (sym (nat_list_eq_equiv.congr d x c t ∙ h))
      | false ↦ λ t. ap (λ b. bytes_eq d c || b) (among-all_but c x ds h)
    ]) refl

among-each_once : (c : List ℕ) (cs : List (List ℕ)) → is_among c (each_once cs) ≡ is_among c cs
among-each_once c [] = refl
among-each_once c (x ∷ cs) =
    (elim (bytes_eq x c) as (λ b. bytes_eq x c ≡ b → (b || is_among c (all_but x (each_once cs))) ≡ (b || is_among c cs)) [
      | true ↦ λ t. refl
      | false ↦ λ t. among-all_but c x (each_once cs) t ∙ among-each_once c cs
    ]) refl

-- closing a code behind whom another one stands
all_but-same : (x c : List ℕ) (ds : List (List ℕ)) → bytes_eq x c ≡ true → all_but x (ds ++ c ∷ []) ≡ all_but x ds
all_but-same x c ds t =
    filter-append (λ d. not (bytes_eq d x)) ds (c ∷ [])
    ∙ ap (λ b. all_but x ds ++ cond (not b) (c ∷ []) []) (flip c x ∙ t) ∙ append-nil (all_but x ds)

all_but-other : (x c : List ℕ) (ds : List (List ℕ)) → bytes_eq x c ≡ false → all_but x (ds ++ c ∷ []) ≡ all_but x ds ++ c ∷ []
all_but-other x c ds t =
    filter-append (λ d. not (bytes_eq d x)) ds (c ∷ [])
    ∙ ap (λ b. all_but x ds ++ cond (not b) (c ∷ []) []) (flip c x ∙ t)

once_by : (c x : List ℕ) (cs : List (List ℕ)) (b there : Bool) → bytes_eq x c ≡ b
    → each_once (cs ++ c ∷ []) ≡ cond there (each_once cs) (each_once cs ++ c ∷ [])
    → x ∷ all_but x (each_once (cs ++ c ∷ [])) ≡ cond (b || there) (each_once (x ∷ cs)) (each_once (x ∷ cs) ++ c ∷ [])
once_by c x cs true true t h = ap (λ ds. x ∷ all_but x ds) h
once_by c x cs true false t h = ap (λ ds. x ∷ all_but x ds) h ∙ ap (λ ds. x ∷ ds) (all_but-same x c (each_once cs) t)
once_by c x cs false true t h = ap (λ ds. x ∷ all_but x ds) h
once_by c x cs false false t h = ap (λ ds. x ∷ all_but x ds) h ∙ ap (λ ds. x ∷ ds) (all_but-other x c (each_once cs) t)

-- one more code at the end
each_once-more : (cs : List (List ℕ)) (c : List ℕ) → each_once (cs ++ c ∷ []) ≡ cond (is_among c cs) (each_once cs) (each_once cs ++ c ∷ [])
each_once-more [] c = refl
each_once-more (x ∷ cs) c = once_by c x cs (bytes_eq x c) (is_among c cs) refl (each_once-more cs c)

pub one_more_once : (cs : List (List ℕ)) (c : List ℕ) → each_once (cs ++ c ∷ []) ≡ with_one_more (each_once cs) c
one_more_once cs c = each_once-more cs c ∙ ap (λ b. cond b (each_once cs) (each_once cs ++ c ∷ [])) (sym (among-each_once c cs))

all_others : (x : List ℕ) (ds : List (List ℕ)) → AllByRecursion (λ y. bytes_eq x y ≡ false) (all_but x ds)
all_others x [] = tt
all_others x (d ∷ ds) =
    (elim (bytes_eq d x) as (λ b. bytes_eq d x ≡ b → AllByRecursion (λ y. bytes_eq x y ≡ false) (cond (not b) (d ∷ all_but x ds) (all_but x ds))) [
      | true ↦ λ t. all_others x ds
      | false ↦ λ t. (flip x d ∙ t, all_others x ds)
    ]) refl

-- ---- the tally

all_tallied_pins : (t : Tally) (cs : List (List ℕ)) → (all_tallied t cs).cache.pinned ≡ t.cache.pinned
all_tallied_pins t [] = refl
all_tallied_pins t (c ∷ cs) = all_tallied_pins (tallied t c) cs ∙ tallied_pins t c

told_by : (t : Tally) (ds : List (List ℕ)) (c : List ℕ) (there held : Bool) → is_among c t.cache.pinned ≡ held
    → cond there (all_tallied t (not_pinned t ds)) (cond held (all_tallied t (not_pinned t ds)) (tallied (all_tallied t (not_pinned t ds)) c))
    ≡ all_tallied t (not_pinned t (cond there ds (ds ++ c ∷ [])))
told_by t ds c true held h = refl
told_by t ds c false true h =
    ap (all_tallied t) (sym (append-nil (not_pinned t ds)) ∙ ap (λ b. not_pinned t ds ++ cond (not b) (c ∷ []) []) (sym h) ∙ sym (filter-append (λ d. not (is_among d t.cache.pinned)) ds (c ∷ [])))
told_by t ds c false false h =
    sym (fold-append tallied t (not_pinned t ds) (c ∷ []))
    ∙ ap (all_tallied t) (ap (λ b. not_pinned t ds ++ cond (not b) (c ∷ []) []) (sym h) ∙ sym (filter-append (λ d. not (is_among d t.cache.pinned)) ds (c ∷ [])))

-- the tally after one more code
pub one_more_told : (t : Tally) (cs : List (List ℕ)) (c : List ℕ) (now : Tally) → now ≡ all_tallied t (not_pinned t (each_once cs))
    → (now' : Tally) → now' ≡ cond (is_among c (each_once cs)) now (cond (is_among c now.cache.pinned) now (tallied now c))
    → now' ≡ all_tallied t (not_pinned t (each_once (cs ++ c ∷ [])))
one_more_told t cs c now is now' so =
    let before : Tally = all_tallied t (not_pinned t (each_once cs)) in
    so ∙ ap (λ (n : Tally). cond (is_among c (each_once cs)) n (cond (is_among c n.cache.pinned) n (tallied n c))) is
    ∙ ap (λ ps. cond (is_among c (each_once cs)) before (cond (is_among c ps) before (tallied before c))) (all_tallied_pins t (not_pinned t (each_once cs)))
    ∙ told_by t (each_once cs) c (is_among c (each_once cs)) (is_among c t.cache.pinned) refl
    ∙ ap (λ ds. all_tallied t (not_pinned t ds)) (sym (one_more_once cs c))

pub told_more : (t : Tally) (cs : List (List ℕ)) (c : List ℕ) (table : List (List ℕ)) (now now' : Tally) → table ≡ each_once cs → now ≡ all_tallied t (not_pinned t (each_once cs))
    → now' ≡ tally_with_one_more table now c → now' ≡ all_tallied t (not_pinned t (each_once (cs ++ c ∷ [])))
told_more t cs c table now now' is told so = one_more_told t cs c now told now' (so ∙ ap (λ (ds : List (List ℕ)). tally_with_one_more ds now c) is)

pub listed_more : (cs : List (List ℕ)) (c : List ℕ) (table new : List (List ℕ)) → table ≡ each_once cs → new ≡ with_one_more table c → new ≡ each_once (cs ++ c ∷ [])
listed_more cs c table new is so = so ∙ ap (λ (ds : List (List ℕ)). with_one_more ds c) is ∙ sym (one_more_once cs c)

-- ---- pins that are pinned already, in this order

once-distinct : (cs : List (List ℕ)) → IsDistinct bytes_eq cs → each_once cs ≡ cs
once-distinct [] d = refl
once-distinct (c ∷ cs) d =
    ap (λ ds. c ∷ all_but c ds) (once-distinct cs (IsDistinct-tail bytes_eq c cs d))
    ∙ ap (λ ds. c ∷ ds) (none_to_close c cs (not_among_others c c cs (nat_list_eq_equiv.refl c) (IsDistinct-head bytes_eq c cs d)))

or_true : (b : Bool) → (b || true) ≡ true
or_true true = refl
or_true false = refl

more_among : (cs ds : List (List ℕ)) (d : List ℕ) → AllByRecursion (λ c. is_among c ds ≡ true) cs → AllByRecursion (λ c. is_among c (d ∷ ds) ≡ true) cs
more_among [] ds d a = tt
more_among (c ∷ cs) ds d a = (ap (λ b. bytes_eq d c || b) a.0 ∙ or_true (bytes_eq d c), more_among cs ds d a.1)

all_among : (cs : List (List ℕ)) → AllByRecursion (λ c. is_among c cs ≡ true) cs
all_among [] = tt
all_among (c ∷ cs) = (ap (λ b. b || is_among c cs) (nat_list_eq_equiv.refl c), more_among cs cs c (all_among cs))

none_left : (cs ds : List (List ℕ)) → AllByRecursion (λ c. is_among c ds ≡ true) cs → filter (λ c. not (is_among c ds)) cs ≡ []
none_left [] ds a = refl
none_left (c ∷ cs) ds a =
    ap (λ b. cond (not b) (c ∷ filter (λ c. not (is_among c ds)) cs) (filter (λ c. not (is_among c ds)) cs)) a.0 ∙ none_left cs ds a.1

pub warmed_same : (t : Tally) → IsDistinct bytes_eq t.cache.pinned → warmed t t.cache.pinned ≡ t
warmed_same t d =
    let once = once-distinct t.cache.pinned d in
    ap (λ cs. with_pins (all_tallied t (not_pinned t cs)) cs) once
    ∙ ap (λ cs. with_pins (all_tallied t cs) t.cache.pinned) (none_left t.cache.pinned t.cache.pinned (all_among t.cache.pinned))

-- the pins are set once each code was looked at
pub warmed_all : (t now : Tally) (cs codes : List (List ℕ)) → codes ≡ each_once cs → now ≡ all_tallied t (not_pinned t (each_once cs)) → with_pins now codes ≡ warmed t cs
warmed_all t now cs codes e f = ap (λ ds. with_pins now ds) e ∙ ap (λ (u : Tally). with_pins u (each_once cs)) f
