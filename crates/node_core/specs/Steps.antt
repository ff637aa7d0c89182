-- The node as one list of atomic steps: heights that are published and entered, and one cache of modules.
use Rattle.std.specs.Prelude.{ℕ, ◌+◌, ◌-◌, ◌==◌, nat_lt, nat_le, if◌then◌else◌, Bool, List, [], ◌∷◌, map, length, replicate, slice_set, Option, unwrap_or, is_some}
use Rattle.gatekeeper.specs.Cache.{Cache, Look, looked, stowed}
use Rattle.node_core.specs.declared.answer.CoreAnswer.{CoreAnswer}
use Rattle.node_core.specs.declared.answer.CoreAnswer.TheVariants.{Nothing, Entered, NotYet, Pruned, Found, Missing, Refused}
use Rattle.node_core.specs.Plain.{Event, publish, enter, look, stow, pins, shelf_answer, tell}

pub record State : Type 0 where
  pub newest : ℕ
  -- how many heights can be entered
  pub keep : ℕ
  pub cache : Cache
  -- for each reader, the height that it has seen
  pub seen : List ℕ

-- the state, and the answer to an event
pub record Step : Type 0 where
  pub state : State
  pub answer : CoreAnswer

-- a code is named by a number: this is the code that has it as its one byte
abbrev pub named : ℕ → List ℕ
named code = code ∷ []

-- height 0 is published, nothing is held, and each reader has seen height 0
abbrev pub start : ℕ → ℕ → ℕ → State
start keep recent readers = record {
  newest = 0;
  keep = keep;
  cache = record { pinned = []; recent = []; size = recent };
  seen = replicate readers 0;
}

-- ---- heights

-- the oldest height that can be entered where n is the newest one
abbrev pub oldest : ℕ → ℕ → ℕ
oldest keep n = n + 1 - keep

-- what is answered to who asks this height
abbrev pub window_at : ℕ → ℕ → ℕ → CoreAnswer
window_at keep n height =
    if nat_lt n height then NotYet n
    else (if nat_lt height (oldest keep n) then Pruned (oldest keep n) n else Entered n height)

-- where no height is asked, it is the newest
abbrev pub window : ℕ → ℕ → Option ℕ → CoreAnswer
window keep n height = window_at keep n (unwrap_or height n)

-- ---- who is there

abbrev pub is_reader : State → ℕ → Bool
is_reader s reader = nat_lt reader (length s.seen)

-- each reader is an actor, and delivery is the one after them
abbrev pub is_actor : State → ℕ → Bool
is_actor s actor = nat_le actor (length s.seen)

-- ---- steps

abbrev pub refused : State → Step
refused s = record { state = s; answer = Refused }

-- the step, where the event is lawful
abbrev pub lawful : Bool → State → Step → Step
lawful ok s step = if ok then step else refused s

abbrev pub seen_by : State → ℕ → State
seen_by s reader = record s { seen = slice_set s.seen reader s.newest }

abbrev pub found_or_missing : Bool → ℕ → CoreAnswer
found_or_missing there code = if there then Found code else Missing

abbrev pub after_look : State → ℕ → Look → Step
after_look s code l = record { state = record s { cache = l.cache }; answer = found_or_missing (is_some l.held) code }

abbrev pub stepped : State → Event → Step
stepped s (publish height) = lawful (height == s.newest + 1) s (record { state = record s { newest = height }; answer = Nothing })
stepped s (enter reader height) = lawful (is_reader s reader) s (record { state = seen_by s reader; answer = window s.keep s.newest height })
stepped s (look actor code) = lawful (is_actor s actor) s (after_look s code (looked s.cache (named code)))
stepped s (stow actor code) = lawful (is_actor s actor) s (record { state = record s { cache = stowed s.cache (named code) }; answer = Nothing })
stepped s (pins codes) = record { state = record s { cache = record s.cache { pinned = map named codes } }; answer = Nothing }
stepped s (shelf_answer actor code good) = lawful (is_actor s actor) s (record { state = s; answer = found_or_missing good code })
stepped s (tell reader) = lawful (is_reader s reader) s (record { state = seen_by s reader; answer = Nothing })
