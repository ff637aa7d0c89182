-- What a cache of modules holds, and what fetches do to it. A code is its bytes. The modules aren't told, since a code's module is
-- the one that its bytes spell.
use Rattle.std.specs.Prelude.{ℕ, ◌+◌, ◌-◌, ◌^◌, min, not, if◌then◌else◌, Bool, List, [], ◌∷◌, take, filter, fold, Option, Some, None}
use Rattle.std.specs.List.{list_any}
use Rattle.std.specs.Str.{bytes_eq}
use Rattle.gatekeeper.specs.declared.served.Served.{Served}
use Rattle.gatekeeper.specs.declared.served.Served.TheVariants.{Pinned, Recent}

pub record Cache : Type 0 where
  pub pinned : List (List ℕ)
  -- the newest use first
  pub recent : List (List ℕ)
  -- how many recent ones are kept
  pub size : ℕ

abbrev pub is_among : List ℕ → List (List ℕ) → Bool
is_among code codes = list_any (λ c. bytes_eq c code) codes

abbrev pub all_but : List ℕ → List (List ℕ) → List (List ℕ)
all_but code codes = filter (λ c. not (bytes_eq c code)) codes

-- the code stands first, and its old place is closed
abbrev pub to_front : List ℕ → List (List ℕ) → List (List ℕ)
to_front code codes = code ∷ all_but code codes

-- how a code is held, if it is, and the cache behind the look
pub record Look : Type 0 where
  pub held : Option Served
  pub cache : Cache

abbrev pub looked : Cache → List ℕ → Look
looked c code =
    if is_among code c.pinned then record { held = Some Pinned; cache = c }
    else (if is_among code c.recent then record { held = Some Recent; cache = record c { recent = to_front code c.recent } }
    else record { held = None; cache = c })

-- the last one goes where the list would pass its size
abbrev pub stowed : Cache → List ℕ → Cache
stowed c code = record c { recent = take c.size (to_front code c.recent) }

-- ---- fetches, one after the other

-- a cache, and how many fetches found a pinned code, a recent one, and neither
pub record Tally : Type 0 where
  pub cache : Cache
  pub pinned : ℕ
  pub recent : ℕ
  pub missed : ℕ

-- a count stays at 2^64 - 1 once there
abbrev pub one_more : ℕ → ℕ
one_more n = min (n + 1) (2 ^ 64 - 1)

abbrev pub after_look : Tally → List ℕ → Option Served → Cache → Tally
after_look t code (Some Pinned) c = record t { cache = c; pinned = one_more t.pinned }
after_look t code (Some Recent) c = record t { cache = c; recent = one_more t.recent }
after_look t code _ c = record t { cache = stowed c code; missed = one_more t.missed }

-- after a fetch: a code that is held is looked up, and another one is stowed
abbrev pub tallied : Tally → List ℕ → Tally
tallied t code =
    let look : Look = looked t.cache code in
    after_look t code look.held look.cache

abbrev pub all_tallied : Tally → List (List ℕ) → Tally
all_tallied t codes = fold tallied t codes

-- ---- pins

-- each code once, in the order of its first place
abbrev pub each_once : List (List ℕ) → List (List ℕ)
each_once [] = []
each_once (code ∷ codes) = to_front code (each_once codes)

abbrev pub not_pinned : Tally → List (List ℕ) → List (List ℕ)
not_pinned t codes = filter (λ code. not (is_among code t.cache.pinned)) codes

abbrev pub with_pins : Tally → List (List ℕ) → Tally
with_pins t pins = record t { cache = record t.cache { pinned = pins } }

-- each of these codes that isn't pinned is fetched once, in order, and then these are the pinned ones
abbrev pub warmed : Tally → List (List ℕ) → Tally
warmed t pins = with_pins (all_tallied t (not_pinned t (each_once pins))) (each_once pins)
