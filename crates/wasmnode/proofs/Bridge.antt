-- The texts of entries answered one after the other are those of a run, and their heights are lawful.
use Rattle.std.proofs.Common.{◌≡◌, ◌≤◌, ◌+◌, ◌==◌, ◌++◌, ◌∷◌, [], ℕ, Bool, true, false, List, length, take, nat_lt, if◌then◌else◌, refl, sym, ap, ◌∙◌, arith, append_assoc, length-append}
use Rattle.std.proofs.lemmas.Bool.Decides.{nat_tests}
use Rattle.std.proofs.lemmas.List.{take-append-le}
use Rattle.std.specs.Prelude.{unwrap_or}
use Rattle.chain_records.specs.State.{State}
use Rattle.chain_msgs.specs.Plain.{Block}
use Rattle.line_protocol.specs.Forms.{Question}
use Rattle.line_protocol.specs.Texts.{line_text, query_data, first_digest}
use Rattle.wasmnode.specs.Chain.{block_answer, reply_at, query_answer}
use Rattle.wasmnode.specs.History.{History, begun, newest, state_of, with_block, entry_text, entry_next, script}
use Rattle.wasmnode.specs.Playing.{after}
use Rattle.wasmnode.specs.Reading.{Opening, Entry, delivers, asks}
use Rattle.wasmnode.specs.Run.{blocks_of, chain_at, AreLawful, heights, texts}
use Rattle.wasmnode.proofs.Histories.{chain_over}

-- ---- replies

same_reply : (f g : ℕ → State) (keep : ℕ) (q : Question) (n height : ℕ) (late : Bool) → nat_lt n height ≡ late → ((k : ℕ) → k ≤ n → f k ≡ g k) → reply_at f keep q n height ≡ reply_at g keep q n height
same_reply f g keep q n height true is same = rw is refl
same_reply f g keep q n height false is same =
    let here : f height ≡ g height = same height (grind (arith, nat_tests)) in
    rw (is, here) refl

-- a reply rests on the states up to the newest height that it saw
same_answer : (f g : ℕ → State) (keep : ℕ) (q : Question) (n : ℕ) → ((k : ℕ) → k ≤ n → f k ≡ g k) → query_answer f keep q n ≡ query_answer g keep q n
same_answer f g keep q n same =
    let height = unwrap_or q.height n in
    ap (λ r. line_text (query_data r)) (same_reply f g keep q n height (nat_lt n height) refl same)

-- ---- texts

-- blocks that come later change no height before them
earlier : (o : Opening) (blocks more all : List Block) (k : ℕ) → all ≡ blocks ++ more → k ≤ length blocks → chain_at o blocks k ≡ chain_at o all k
earlier o blocks more all k is within = ap (chain_over o.state first_digest) (sym (take-append-le k blocks more within) ∙ ap (take k) (sym is))

script_is_texts : (keep : ℕ) (h : History) (entries : List Entry) (all : List Block) → all ≡ h.blocks ++ blocks_of entries
    → script keep h entries ≡ texts (chain_at h.opening all) keep (newest h) entries (heights (newest h) entries)
script_is_texts keep h [] all is = refl
script_is_texts keep h (delivers b ∷ entries) all is =
    let chains = chain_at h.opening all in
    let here = earlier h.opening h.blocks (b ∷ blocks_of entries) all (newest h) is (omega arith) in
    let longer : newest (with_block h b) ≡ newest h + 1 = length-append h.blocks (b ∷ []) in
    let later = script_is_texts keep (with_block h b) entries all (is ∙ sym (append_assoc h.blocks (b ∷ []) (blocks_of entries))) in
    ap (λ c. block_answer c b ∷ script keep (with_block h b) entries) here
    ∙ ap (λ l. block_answer (chains (newest h)) b ∷ l) (later ∙ ap (λ n. texts chains keep n entries (heights n entries)) longer)
script_is_texts keep h (asks q ∷ entries) all is =
    let chains = chain_at h.opening all in
    let here = same_answer (state_of h) (λ height. (chains height).state) keep q (newest h) (λ k within. ap (λ c. c.state) (earlier h.opening h.blocks (blocks_of entries) all k is within)) in
    let later = script_is_texts keep h entries all is in
    ap (λ l. l ∷ script keep h entries) here ∙ ap (λ l. query_answer (λ height. (chains height).state) keep q (newest h) ∷ l) later

pub script_of : (keep : ℕ) (o : Opening) (entries : List Entry) → script keep (begun o) entries ≡ texts (chain_at o (blocks_of entries)) keep 0 entries (heights 0 entries)
script_of keep o entries = script_is_texts keep (begun o) entries (blocks_of entries) refl

pub script_append : (keep : ℕ) (h : History) (xs ys : List Entry) → script keep h (xs ++ ys) ≡ script keep h xs ++ script keep (after h xs) ys
script_append keep h [] ys = refl
script_append keep h (x ∷ xs) ys = ap (λ l. entry_text keep h x ∷ l) (script_append keep (entry_next h x) xs ys)

-- ---- heights

seen_low : (same : Bool) (n k : ℕ) → n ≤ k → (if same then k else n) ≤ k
seen_low true n k low = omega arith
seen_low false n k low = low

heights_from : (k all : ℕ) (entries : List Entry) (seen : ℕ → ℕ) → ((client : ℕ) → seen client ≤ k) → all ≡ k + length (blocks_of entries) → AreLawful all seen k entries (heights k entries)
heights_from k all [] seen low is = tt
heights_from k all (delivers b ∷ entries) seen low is =
    heights_from (k + 1) all entries seen (λ client. let l = low client in omega (arith, l)) (omega (arith, is))
heights_from k all (asks q ∷ entries) seen low is = (
  omega arith,
  omega arith,
  omega (arith, is),
  low q.client,
  heights_from k all entries (λ client. if client == q.client then k else seen client) (λ client. seen_low (client == q.client) (seen client) k (low client)) is,
)

-- the heights that the queries of a run on one thread see
pub heights_lawful : (entries : List Entry) → AreLawful (length (blocks_of entries)) (λ _. 0) 0 entries (heights 0 entries)
heights_lawful entries = heights_from 0 (length (blocks_of entries)) entries (λ _. 0) (λ client. omega arith) (omega arith)
