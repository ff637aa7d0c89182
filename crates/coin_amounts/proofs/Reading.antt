-- The coins that were read so far, as the entries of a map from denoms to amounts.
use Rattle.std.proofs.Common.{◌≡◌, ℕ, ◌+◌, ◌<◌, Bool, true, false, cond, ◌||◌, List, [], ◌∷◌, ◌++◌, length, take, get_or, map, fold, Option, Some, None, Result, Ok, Err, IsErr, is_err, ◌≢◌, is_some, String, Global, string_bytes, string_cmp, bytes_eq, Ordering, refl, sym, ap, ◌∙◌, arith}
use Rattle.std.specs.Ordering.{is_gt, is_eq, match_ordering}
use Rattle.std.specs.declared.cmp.Ordering.TheVariants.{Less, Equal, Greater}
use Rattle.std.specs.List.{list_any}
use Rattle.std.specs.Map.{lookup}
use Rattle.std.specs.BTreeMap.{insert_entry, is_at}
use Rattle.std.proofs.lemmas.List.{length_push, take_all, get_or-map, length-map}
use Rattle.std.proofs.lemmas.Simd.{map-map}
use Rattle.std.proofs.lemmas.List.Sums.{fold_push, fold_more}
use Rattle.std.proofs.lemmas.List.Folds.{fold_stuck}
use Rattle.std.proofs.lemmas.List.Sorted.{list_any-IsPermutation}
use Rattle.std.proofs.lemmas.Map.Text.{is_eq-slice_cmp}
use Rattle.coin_amounts.specs.declared.read.CoinsFault.{CoinsFault}
use Rattle.coin_amounts.specs.declared.read.CoinsFault.TheVariants.{DenomBad, AmountBad, AmountZero, DenomTwice, NoMemory}
use Rattle.coin_amounts.specs.Plain.{Coin, RawCoin, coin_view, raw_coin_view}
use Rattle.coin_amounts.specs.declared.coin.Coin as coin_type
use Rattle.coin_amounts.specs.declared.coin.RawCoin as raw_type
use Rattle.coin_amounts.specs.Entry.{coin_from}
use Rattle.coin_amounts.specs.Coins.{coin_at, with_coin, with_next, coins_in_place, put_by_denom, by_denom, coins_of, IsFaultOf}
use Rattle.coin_amounts.proofs.Sorting.{IsPermutation-put_all}

-- an entry of the map as a coin
abbrev pub entry_view : String Global × ℕ → Coin
entry_view e = coin_view (coin_from e)

-- a new entry stands where the coin is put
inserted_at : (o : Ordering) (e : String Global × ℕ) (es fs : List (String Global × ℕ)) (k : String Global) (v : ℕ) (puts : List Coin) → cond (is_eq o) (Some e.1) (lookup (is_at (string_cmp k)) es) ≡ None → map entry_view fs ≡ puts → map entry_view (match_ordering o ((k, v) ∷ e ∷ es) ((e.0, v) ∷ es) (e ∷ fs)) ≡ cond (is_gt o) (entry_view e ∷ puts) (entry_view (k, v) ∷ entry_view e ∷ map entry_view es)
inserted_at Less e es fs k v puts new rest = refl
inserted_at Equal e es fs k v puts new rest = cc
inserted_at Greater e es fs k v puts new rest = ap (λ cs. entry_view e ∷ cs) rest

new_in_tail : (b : Bool) (v : ℕ) (o : Option ℕ) → cond b (Some v) o ≡ None → o ≡ None
new_in_tail true v o new = cc
new_in_tail false v o new = new

map-insert_entry : (es : List (String Global × ℕ)) (k : String Global) (v : ℕ) → lookup (is_at (string_cmp k)) es ≡ None → map entry_view (insert_entry string_cmp es k v) ≡ put_by_denom (map entry_view es) (entry_view (k, v))
map-insert_entry [] k v new = refl
map-insert_entry (e ∷ es) k v new =
    inserted_at (string_cmp k e.0) e es (insert_entry string_cmp es k v) k v _ new (map-insert_entry es k v (new_in_tail _ e.1 _ new))

-- the map has the key exactly where a coin has the denom
found_or : (b : Bool) (v : ℕ) (o : Option ℕ) → is_some (cond b (Some v) o) ≡ (b || is_some o)
found_or true v o = refl
found_or false v o = refl

is_some-denom : (es : List (String Global × ℕ)) (k : String Global) → is_some (lookup (is_at (string_cmp k)) es) ≡ list_any (λ other. bytes_eq (string_bytes k) other.denom) (map entry_view es)
is_some-denom [] k = refl
is_some-denom (e ∷ es) k =
    found_or (is_at (string_cmp k) e.0) e.1 _ ∙ ap (λ b. b || is_some (lookup (is_at (string_cmp k)) es)) (is_eq-slice_cmp (string_bytes k) (string_bytes e.0)) ∙ ap (λ b. bytes_eq (string_bytes k) (string_bytes e.0) || b) (is_some-denom es k)

pub none_from : (o : Option ℕ) → is_some o ≡ false → o ≡ None
none_from None is = refl
none_from (Some v) is = cc

-- the plain form of the list at a place
pub raw_at : (xs : List raw_type.RawCoin) (i : ℕ) (x : raw_type.RawCoin) → i < length xs → x ≡ get_or xs i x → get_or (map raw_coin_view xs) i (raw_coin_view x) ≡ raw_coin_view x
raw_at xs i x within is = get_or-map raw_coin_view xs i x (raw_coin_view x) within ∙ ap raw_coin_view (sym is)

pub length-raw : (xs : List raw_type.RawCoin) (i : ℕ) → i < length xs → i < length (map raw_coin_view xs)
length-raw xs i within = rw length-map within

-- the coins of the places below this one were read, and the map has them
pub record ReadsSoFar (raws : List RawCoin) (place : ℕ) (es : List (String Global × ℕ)) : Type 0 where
  pub coins : List Coin
  pub places : length coins ≡ place
  pub read : coins_in_place (take place raws) ≡ Ok coins
  pub kept : map entry_view es ≡ fold put_by_denom [] coins

pub reads_none : (raws : List RawCoin) (es : List (String Global × ℕ)) → es ≡ [] → ReadsSoFar raws 0 es
reads_none raws es empty = record { coins = []; places = refl; read = refl; kept = ap (map entry_view) empty }

module _ (raws : List RawCoin) (place : ℕ) (es : List (String Global × ℕ)) (so_far : ReadsSoFar raws place es) (raw : RawCoin) (within : place < length raws) (is_here : get_or raws place raw ≡ raw) where
  -- what this place leads to
  stepped : (next : Result Coin CoinsFault) → coin_at place raw ≡ next → with_next (coins_in_place (take place raws)) (get_or raws place raw) ≡ with_coin so_far.coins next
  stepped next found = ap (λ r. with_next r (get_or raws place raw)) so_far.read ∙ ap (λ r. with_next (Ok so_far.coins) r) is_here ∙ ap (λ n. with_coin so_far.coins (coin_at n raw)) so_far.places ∙ ap (with_coin so_far.coins) found

  ended : (fault : CoinsFault) → with_next (coins_in_place (take place raws)) (get_or raws place raw) ≡ Err fault → coins_of raws ≡ Err fault
  ended fault is = ap by_denom (sym (fold_stuck with_next (Err fault) (λ r. refl) (Ok []) raws place raw within is))

  read_faults : (fault : CoinsFault) → coin_at place raw ≡ Err fault → coins_of raws ≡ Err fault
  read_faults fault found = ended fault (stepped (Err fault) found)

  same_denoms : (k : String Global) → is_some (lookup (is_at (string_cmp k)) es) ≡ list_any (λ other. bytes_eq (string_bytes k) other.denom) so_far.coins
  same_denoms k =
      let test = λ (other : Coin). bytes_eq (string_bytes k) other.denom in
      is_some-denom es k ∙ ap (list_any test) so_far.kept ∙ sym (list_any-IsPermutation test _ _ (IsPermutation-put_all so_far.coins))

  read_twice : (k : String Global) (v : ℕ) → coin_at place raw ≡ Ok (entry_view (k, v)) → is_some (lookup (is_at (string_cmp k)) es) ≡ true → coins_of raws ≡ Err (DenomTwice place)
  read_twice k v found had =
      let twice : with_coin so_far.coins (Ok (entry_view (k, v))) ≡ Err (DenomTwice (length so_far.coins)) = rw (sym (same_denoms k) ∙ had) refl in
      ended (DenomTwice place) (stepped _ found ∙ twice ∙ ap (λ n. Err (DenomTwice n)) so_far.places)

  pub reads_more : (k : String Global) (v : ℕ) (fs : List (String Global × ℕ)) → coin_at place raw ≡ Ok (entry_view (k, v)) → lookup (is_at (string_cmp k)) es ≡ None → fs ≡ insert_entry string_cmp es k v → ReadsSoFar raws (place + 1) fs
  reads_more k v fs found new grown =
      let once : with_coin so_far.coins (Ok (entry_view (k, v))) ≡ Ok (so_far.coins ++ entry_view (k, v) ∷ []) = rw (sym (same_denoms k) ∙ ap is_some new) refl in
      record {
        coins = so_far.coins ++ entry_view (k, v) ∷ [];
        places = length_push so_far.coins (entry_view (k, v)) ∙ ap (λ n. n + 1) so_far.places;
        read = fold_more with_next (Ok []) raws place raw within ∙ stepped _ found ∙ once;
        kept = ap (map entry_view) grown ∙ map-insert_entry es k v new ∙ ap (λ cs. put_by_denom cs (entry_view (k, v))) so_far.kept ∙ sym (fold_push put_by_denom [] so_far.coins (entry_view (k, v)));
      }

-- at the end of the list the map has the coins that the list gives
reads_all : (raws : List RawCoin) (place : ℕ) (es : List (String Global × ℕ)) → ReadsSoFar raws place es → place ≡ length raws → coins_of raws ≡ Ok (map entry_view es)
reads_all raws place es so_far at_end =
    let whole : take place raws ≡ raws = take_all place raws (omega arith) in
    ap by_denom (sym (ap coins_in_place whole) ∙ so_far.read) ∙ ap Ok (sym so_far.kept)

pub listed_all : (raws : List RawCoin) (place : ℕ) (es : List (String Global × ℕ)) (list : List coin_type.Coin) → ReadsSoFar raws place es → place ≡ length raws → list ≡ map coin_from es → coins_of raws ≡ Ok (map coin_view list)
listed_all raws place es list so_far at_end is = reads_all raws place es so_far at_end ∙ ap Ok (sym (ap (map coin_view) is ∙ map-map coin_view coin_from es))

-- a fault that leads to another outcome's fault
IsFaultOf-leads : {T U : Type 0} (fault : CoinsFault) (x : Result T CoinsFault) (y : Result U CoinsFault) → ((f : CoinsFault) → x ≡ Err f → y ≡ Err f) → IsFaultOf fault x → IsFaultOf fault y
IsFaultOf-leads NoMemory x y leads is = tt
IsFaultOf-leads (DenomBad n) x y leads is = leads (DenomBad n) is
IsFaultOf-leads (AmountBad n) x y leads is = leads (AmountBad n) is
IsFaultOf-leads (AmountZero n) x y leads is = leads (AmountZero n) is
IsFaultOf-leads (DenomTwice n) x y leads is = leads (DenomTwice n) is

IsErr-from_fault : {T : Type 0} (fault : CoinsFault) (outcome : Result T CoinsFault) → IsFaultOf fault outcome → fault ≢ NoMemory → IsErr outcome
IsErr-from_fault NoMemory outcome is other = absurd (other refl)
IsErr-from_fault (DenomBad n) outcome is other = ap is_err is
IsErr-from_fault (AmountBad n) outcome is other = ap is_err is
IsErr-from_fault (AmountZero n) outcome is other = ap is_err is
IsErr-from_fault (DenomTwice n) outcome is other = ap is_err is

-- what reading the list gives where the coin at this place can't be read, in both forms
pub record Faults (fault : CoinsFault) (list : List raw_type.RawCoin) : Type 0 where
  pub of_list : IsFaultOf fault (coins_of (map raw_coin_view list))
  pub refuses : fault ≢ NoMemory → IsErr (coins_of (map raw_coin_view list))

module _ (list : List raw_type.RawCoin) (place : ℕ) (es : List (String Global × ℕ)) (so_far : ReadsSoFar (map raw_coin_view list) place es) (raw : raw_type.RawCoin) (within : place < length list) (is_here : raw ≡ get_or list place raw) where
  faults : (fault : CoinsFault) → IsFaultOf fault (coins_of (map raw_coin_view list)) → Faults fault list
  faults fault is = record { of_list = is; refuses = IsErr-from_fault fault _ is }

  pub faults_alone : (fault : CoinsFault) → IsFaultOf fault (coin_at place (raw_coin_view raw)) → Faults fault list
  faults_alone fault is =
      let leads = read_faults (map raw_coin_view list) place es so_far (raw_coin_view raw) (length-raw list place within) (raw_at list place raw within is_here) in
      faults fault (IsFaultOf-leads fault _ _ leads is)

  pub faults_twice : (k : String Global) (v : ℕ) → coin_at place (raw_coin_view raw) ≡ Ok (entry_view (k, v)) → is_some (lookup (is_at (string_cmp k)) es) ≡ true → Faults (DenomTwice place) list
  faults_twice k v found had =
      faults (DenomTwice place) (read_twice (map raw_coin_view list) place es so_far (raw_coin_view raw) (length-raw list place within) (raw_at list place raw within is_here) k v found had)
