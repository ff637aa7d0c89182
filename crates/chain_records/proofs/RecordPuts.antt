-- The parts of a record, written one after the other, are the record.
use Rattle.std.proofs.Common.{◌≡◌, ℕ, List, ◌++◌, append_assoc}
use Rattle.chain_records.specs.Pieces.{be8, after_length, listed, optional, IsNumber, HasLength, IsText, AreListed, IsOptional}
use Rattle.chain_records.specs.Records.{PlainFacts, PlainContract, facts_bytes, contract_bytes, AreFacts, IsContract}
use Rattle.chain_records.specs.Puts.{Puts}

joined_4 : (o a b c d w x y z : List ℕ) → a ≡ o ++ w → b ≡ a ++ x → c ≡ b ++ y → d ≡ c ++ z → d ≡ o ++ (w ++ x ++ y ++ z)
joined_4 o a b c d w x y z ea eb ec ed = rw (ed, ec, eb, ea) (simp append_assoc)

joined_7 : (o a b c d e f g s t u w x y z : List ℕ) → a ≡ o ++ s → b ≡ a ++ t → c ≡ b ++ u → d ≡ c ++ w → e ≡ d ++ x → f ≡ e ++ y → g ≡ f ++ z → g ≡ o ++ (s ++ t ++ u ++ w ++ x ++ y ++ z)
joined_7 o a b c d e f g s t u w x y z ea eb ec ed ee ef eg = rw (eg, ef, ee, ed, ec, eb, ea) (simp append_assoc)

pub facts_put : (facts : PlainFacts) (o a b c d e f g : List ℕ) → Puts after_length IsText facts.chain_id o a → Puts after_length IsText facts.prefix a b → Puts (optional after_length) (IsOptional HasLength) facts.authority b c
    → Puts (listed after_length) (AreListed IsText) facts.caps c d → Puts be8 IsNumber facts.query_gas d e → Puts be8 IsNumber facts.height e f → Puts be8 IsNumber facts.time f g
    → Puts facts_bytes AreFacts facts o g
facts_put facts o a b c d e f g pa pb pc pd pe pf pg = record {
  after = joined_7 o a b c d e f g _ _ _ _ _ _ _ pa.after pb.after pc.after pd.after pe.after pf.after pg.after;
  is = record { chain_id = pa.is; prefix = pb.is; authority = pc.is; caps = pd.is; query_gas = pe.is; height = pf.is; time = pg.is };
}

pub contract_put : (contract : PlainContract) (o a b c d : List ℕ) → Puts be8 IsNumber contract.code_id o a → Puts after_length HasLength contract.creator a b → Puts (optional after_length) (IsOptional HasLength) contract.admin b c
    → Puts after_length IsText contract.label c d → Puts contract_bytes IsContract contract o d
contract_put contract o a b c d pa pb pc pd = record {
  after = joined_4 o a b c d _ _ _ _ pa.after pb.after pc.after pd.after;
  is = record { code_id = pa.is; creator = pb.is; admin = pc.is; label = pd.is };
}
