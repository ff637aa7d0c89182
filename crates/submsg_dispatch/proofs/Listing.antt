-- Addresses that are read one by one, and those who may instantiate a code.
use Rattle.std.proofs.Common.{◌≡◌, ℕ, List, [], ◌∷◌, ◌++◌, Option, None, Some, Result, Ok, Err, append-nil, append_assoc, refl, sym, ap, ◌∙◌, subst}
use Rattle.std.specs.Prelude.{option_map, IsErrAnd}
use Rattle.chain_msgs.specs.Plain.{Failure}
use Rattle.chain_addr.specs.Address.{address_of}
use Rattle.kv_layers.specs.declared.layers.Layers.{Layers}
use Rattle.chain_records.specs.State.{Bytes}
use Rattle.gatekeeper.specs.Cache.{Tally}
use Rattle.submsg_dispatch.specs.declared.stop.HandleStop.{HandleStop}
use Rattle.submsg_dispatch.specs.declared.stop.HandleStop.TheVariants.{Failed, OutOfGas, NoMemory}
use Rattle.submsg_dispatch.specs.Parts.{Part, fails, or_fails, ◌>>=◌}
use Rattle.submsg_dispatch.specs.Failures.{address_bad}
use Rattle.submsg_dispatch.specs.Messages.{both_of, addresses_of, allowed_of, allowed_in}
use Rattle.submsg_dispatch.specs.Under.{Misses, Finds, LeadsUnder}
use Rattle.submsg_dispatch.proofs.Leading.{alike, finds_passes, finds_stops, fails_so, no_memory}

-- those that were read in front of the others
abbrev pub in_front : List (List ℕ) → Option (List (List ℕ)) → Option (List (List ℕ))
in_front front others = option_map (λ addrs. front ++ addrs) others

pub no_front : (others : Option (List (List ℕ))) → in_front [] others ≡ others
no_front None = refl
no_front (Some addrs) = refl

pub whole_front : (front : List (List ℕ)) → in_front front (Some []) ≡ Some front
whole_front front = ap Some (append-nil front)

one_more : (front : List (List ℕ)) (addr : List ℕ) (others : Option (List (List ℕ))) → in_front front (both_of (Some addr) others) ≡ in_front (front ++ addr ∷ []) others
one_more front addr None = refl
one_more front addr (Some addrs) = ap Some (sym (append_assoc front (addr ∷ []) addrs))

-- the first of the texts that are left is an address
pub next_address : (prefix : List ℕ) (front : List (List ℕ)) (text : List ℕ) (texts : List (List ℕ)) (addr : List ℕ) → address_of prefix text ≡ Some addr → in_front front (addresses_of prefix (text ∷ texts)) ≡ in_front (front ++ addr ∷ []) (addresses_of prefix texts)
next_address prefix front text texts addr is = ap (λ (o : Option (List ℕ)). in_front front (both_of o (addresses_of prefix texts))) is ∙ one_more front addr (addresses_of prefix texts)

-- or it is none
pub no_next : (prefix : List ℕ) (front : List (List ℕ)) (text : List ℕ) (texts : List (List ℕ)) → address_of prefix text ≡ None → in_front front (addresses_of prefix (text ∷ texts)) ≡ None
no_next prefix front text texts is = ap (λ (o : Option (List ℕ)). in_front front (both_of o (addresses_of prefix texts))) is

-- ---- those who may instantiate a code

module _ {B : Type 0} {S : B → Bytes → Type 0} {prefix : List ℕ} where
  pub after_allowed : {X C : Type 0} {old new : Layers B} {before after : Option Tally} {l m : ℕ} {view : X → C} {result : Result X HandleStop} (texts allowed : Option (List (List ℕ))) (k : Option (List (List ℕ)) → Part C) → allowed_of prefix texts ≡ Some allowed
      → LeadsUnder prefix S old new before after l m (k allowed) view result → LeadsUnder prefix S old new before after l m (allowed_in texts >>= k) view result
  after_allowed {l = l} texts allowed k found leads =
      alike (allowed_in texts >>= k) (k allowed) (λ s same. ap (λ (p : List ℕ). (or_fails address_bad (allowed_of p texts) >>= k) s l) same ∙ finds_passes address_bad (allowed_of prefix texts) allowed k s l found) leads

  pub none_allowed : {X C : Type 0} {layers : Layers B} {l : ℕ} {view : X → C} (tally : Option Tally) (stop : HandleStop) (texts : Option (List (List ℕ))) (k : Option (List (List ℕ)) → Part C) → Misses stop address_bad (allowed_of prefix texts)
      → LeadsUnder prefix S layers layers tally tally l l (allowed_in texts >>= k) view (Err stop)
  none_allowed {C = C} {l = l} tally (Failed found) texts k miss =
      alike (allowed_in texts >>= k) (fails {A = C} address_bad) (λ s same. ap (λ (p : List ℕ). (or_fails address_bad (allowed_of p texts) >>= k) s l) same ∙ finds_stops address_bad (allowed_of prefix texts) k s l miss.0) (fails_so tally (Failed found) address_bad miss.1)
  none_allowed tally OutOfGas texts k miss = absurd miss
  none_allowed tally NoMemory texts k miss = no_memory

-- ---- stops that are passed on

pub passes_found : {X A : Type 0} (view : X → A) (failure : Failure) (wanted : Option A) (result : Result X HandleStop) (stop : HandleStop) → IsErrAnd result (λ y. y ≡ stop) → Misses stop failure wanted → Finds view result failure wanted
passes_found view failure wanted (Ok x) stop is miss = absurd is
passes_found view failure wanted (Err y) stop is miss = subst (λ (e : HandleStop). Misses e failure wanted) (sym is) miss

-- what is missing in a part is missing in the whole
pub missed_then : {A C : Type 0} (failure : Failure) (stop : HandleStop) (part : Option A) (whole : Option C) → (part ≡ None → whole ≡ None) → Misses stop failure part → Misses stop failure whole
missed_then failure (Failed found) part whole passes miss = (passes miss.0, miss.1)
missed_then failure OutOfGas part whole passes miss = miss
missed_then failure NoMemory part whole passes miss = tt
