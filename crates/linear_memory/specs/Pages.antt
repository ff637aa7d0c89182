-- A memory is a list of bytes of whole pages, of which it has at most 512 (WebAssembly core 1.0, section 4.2.8).
use Rattle.std.specs.Prelude.{◌≡◌, ℕ, ◌*◌, ◌/◌, ◌%◌, ◌≤◌, List, ◌++◌, length, replicate, Option, MatchOption}

abbrev pub page_size : ℕ
page_size = 65536

abbrev pub most_pages : ℕ
most_pages = 512

abbrev pub pages_of : List ℕ → ℕ
pages_of memory = length memory / page_size

-- so many pages of zeros
abbrev pub zeros : ℕ → List ℕ
zeros pages = replicate (page_size * pages) 0

pub record IsPaged (memory : List ℕ) : Type 0 where
  pub whole : length memory % page_size ≡ 0
  pub most : length memory ≤ page_size * most_pages

-- The memory after a growth that was answered so: grown by zeros where the answer is the old size, which it then is, and
-- unchanged where it is none.
abbrev pub Grows : List ℕ → List ℕ → ℕ → Option ℕ → Type 0
Grows old new pages answer =
    MatchOption answer (new ≡ old) (λ size. (size ≡ pages_of old) × (new ≡ old ++ zeros pages))
