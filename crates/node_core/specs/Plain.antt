-- Events, with a list in place of a `Vec`.
use Rattle.std.specs.Prelude.{ℕ, List, Bool, Option}

pub data Event : Type 0 where
  publish : ℕ → Event
  -- a reader, and the height that it asks, or the newest
  enter : ℕ → Option ℕ → Event
  -- an actor, and a code
  look : ℕ → ℕ → Event
  stow : ℕ → ℕ → Event
  pins : List ℕ → Event
  -- an actor, a code, and whether the shelf had the file of its module
  shelf_answer : ℕ → ℕ → Bool → Event
  tell : ℕ → Event
