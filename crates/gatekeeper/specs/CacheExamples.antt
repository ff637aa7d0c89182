-- Small caches at which the definitions compute to what is said of them. The codes are of one byte, and two recent ones are kept.
use Rattle.std.specs.Prelude.{◌≡◌, ℕ, ◌-◌, ◌^◌, List, [], ◌∷◌, Some, None, refl}
use Rattle.gatekeeper.specs.declared.served.Served.TheVariants.{Pinned, Recent}
use Rattle.gatekeeper.specs.Cache.{Cache, Tally, looked, stowed, tallied, all_tallied, each_once, warmed}

abbrev a : List ℕ
a = 0xA ∷ []

abbrev b : List ℕ
b = 0xB ∷ []

abbrev c : List ℕ
c = 0xC ∷ []

abbrev of : List (List ℕ) → List (List ℕ) → Cache
of pinned recent = record { pinned = pinned; recent = recent; size = 2 }

abbrev told : Cache → ℕ → ℕ → ℕ → Tally
told cache pinned recent missed = record { cache = cache; pinned = pinned; recent = recent; missed = missed }

-- a recent code comes to the front
moves_to_the_front : looked (of [] (a ∷ b ∷ [])) b ≡ record { held = Some Recent; cache = of [] (b ∷ a ∷ []) }
moves_to_the_front = refl

-- a pinned one leaves the recent ones as they are, also where it is among them
pinned_comes_first : looked (of (b ∷ []) (a ∷ b ∷ [])) b ≡ record { held = Some Pinned; cache = of (b ∷ []) (a ∷ b ∷ []) }
pinned_comes_first = refl

is_in_neither : looked (of (b ∷ []) (a ∷ [])) c ≡ record { held = None; cache = of (b ∷ []) (a ∷ []) }
is_in_neither = refl

drops_the_last : stowed (of [] (a ∷ b ∷ [])) c ≡ of [] (c ∷ a ∷ [])
drops_the_last = refl

closes_its_old_place : stowed (of [] (a ∷ b ∷ [])) b ≡ of [] (b ∷ a ∷ [])
closes_its_old_place = refl

keeps_none_of_size_0 : stowed (record { pinned = []; recent = []; size = 0 }) a ≡ record { pinned = []; recent = []; size = 0 }
keeps_none_of_size_0 = refl

-- b is used again, so that a goes where c comes
fetches : all_tallied (told (of (c ∷ []) []) 0 0 0) (a ∷ b ∷ a ∷ c ∷ b ∷ []) ≡ told (of (c ∷ []) (b ∷ a ∷ [])) 1 2 2
fetches = refl

evicts : all_tallied (told (of [] []) 0 0 0) (a ∷ b ∷ a ∷ c ∷ b ∷ []) ≡ told (of [] (b ∷ c ∷ [])) 0 1 4
evicts = refl

count_at_its_end : tallied (told (of (a ∷ []) []) (2 ^ 64 - 1) 0 7) a ≡ told (of (a ∷ []) []) (2 ^ 64 - 1) 0 7
count_at_its_end = refl

comes_to_its_end : tallied (told (of [] []) 0 0 (2 ^ 64 - 2)) a ≡ told (of [] (a ∷ [])) 0 0 (2 ^ 64 - 1)
comes_to_its_end = refl

first_places : each_once (b ∷ a ∷ b ∷ c ∷ a ∷ []) ≡ b ∷ a ∷ c ∷ []
first_places = refl

-- a is pinned already, and is not fetched; b is fetched once
warms_with_repeats : warmed (told (of (a ∷ c ∷ []) []) 5 0 0) (b ∷ a ∷ b ∷ []) ≡ told (of (b ∷ a ∷ []) (b ∷ [])) 5 0 1
warms_with_repeats = refl

-- a recent code that is pinned stays recent
warms_recent : warmed (told (of [] (a ∷ b ∷ [])) 0 0 0) (b ∷ []) ≡ told (of (b ∷ []) (b ∷ a ∷ [])) 0 1 0
warms_recent = refl
