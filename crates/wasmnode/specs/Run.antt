-- What a run writes: a text for the genesis, for each block and for each query, and the bad line's.
use Rattle.std.specs.Prelude.{ℕ, ◌+◌, ◌≤◌, ◌==◌, List, [], ◌∷◌, ◌++◌, Option, None, Some, ⊤, if◌then◌else◌}
use Rattle.chain_msgs.specs.Plain.{Block}
use Rattle.line_protocol.specs.Texts.{line_text, bad_data}
use Rattle.wasmnode.specs.Chain.{Chain, chain_after, genesis_answer, block_answer, query_answer}
use Rattle.wasmnode.specs.Reading.{Opening, Entry, delivers, asks, Bad, Reading, never, opens, bad_of, reading}

abbrev pub blocks_of : List Entry → List Block
blocks_of [] = []
blocks_of (delivers b ∷ entries) = b ∷ blocks_of entries
blocks_of (asks q ∷ entries) = blocks_of entries

-- the chain after the first k blocks: its state is `state_at` of what the genesis opens
abbrev pub chain_at : Opening → List Block → ℕ → Chain
chain_at opening blocks k = chain_after opening.state blocks k

-- ---- the heights that queries see

-- Of queries that stand after k blocks of a run of so many: a number for each, which is that of the blocks before it or one
-- more, no more than the run has, and no less than this client saw before.
abbrev pub AreLawful : ℕ → (ℕ → ℕ) → ℕ → List Entry → List ℕ → Type 0
AreLawful all seen k [] [] = ⊤
AreLawful all seen k [] (n ∷ numbers) = ⊥
AreLawful all seen k (delivers b ∷ entries) numbers = AreLawful all seen (k + 1) entries numbers
AreLawful all seen k (asks q ∷ entries) [] = ⊥
AreLawful all seen k (asks q ∷ entries) (n ∷ numbers) =
    (k ≤ n) × (n ≤ k + 1) × (n ≤ all) × (seen q.client ≤ n) × AreLawful all (λ client. if client == q.client then n else seen client) k entries numbers

-- in a run on one thread each sees the height of the blocks before it
abbrev pub heights : ℕ → List Entry → List ℕ
heights k [] = []
heights k (delivers b ∷ entries) = heights (k + 1) entries
heights k (asks q ∷ entries) = k ∷ heights k entries

-- ---- texts

-- one text for each entry, where the chain at each height is this, so many heights are kept, and k blocks stand before them
abbrev pub texts : (ℕ → Chain) → ℕ → ℕ → List Entry → List ℕ → List (List ℕ)
texts chains keep k [] numbers = []
texts chains keep k (delivers b ∷ entries) numbers = block_answer (chains k) b ∷ texts chains keep (k + 1) entries numbers
texts chains keep k (asks q ∷ entries) [] = []
texts chains keep k (asks q ∷ entries) (n ∷ numbers) = query_answer (λ height. (chains height).state) keep q n ∷ texts chains keep k entries numbers

-- the texts of all lines before the bad one
abbrev pub answers_of : ℕ → Reading → List (List ℕ)
answers_of keep (never bad) = []
answers_of keep (opens opening rest) =
    genesis_answer opening.genesis ∷ texts (chain_at opening (blocks_of rest.entries)) keep 0 rest.entries (heights 0 rest.entries)

abbrev pub bad_texts : Option Bad → List (List ℕ)
bad_texts None = []
bad_texts (Some bad) = line_text (bad_data bad.kind bad.line) ∷ []

-- the texts of a run on one thread, each once, in the order of their lines
abbrev pub texts_of : ℕ → List ℕ → List (List ℕ)
texts_of keep input = answers_of keep (reading input) ++ bad_texts (bad_of (reading input))
