-- The lists of a module, written one after the other, are its lists together.
use Rattle.std.proofs.Common.{◌≡◌, ℕ, List, [], ◌++◌, append_assoc}
use Rattle.std.proofs.lemmas.List.{append-nil}

pub joined : (o a1 a2 a3 a4 a5 a6 a7 a8 a9 a10 t1 t2 t3 t4 t5 t6 t7 t8 t9 t10 : List ℕ) → a1 ≡ o ++ t1 → a2 ≡ a1 ++ t2 → a3 ≡ a2 ++ t3 → a4 ≡ a3 ++ t4 → a5 ≡ a4 ++ t5 → a6 ≡ a5 ++ t6 → a7 ≡ a6 ++ t7 → a8 ≡ a7 ++ t8 → a9 ≡ a8 ++ t9 → a10 ≡ a9 ++ t10 → a10 ≡ o ++ (t1 ++ (t2 ++ (t3 ++ (t4 ++ (t5 ++ (t6 ++ (t7 ++ (t8 ++ (t9 ++ (t10 ++ []))))))))))
joined o a1 a2 a3 a4 a5 a6 a7 a8 a9 a10 t1 t2 t3 t4 t5 t6 t7 t8 t9 t10 e1 e2 e3 e4 e5 e6 e7 e8 e9 e10 = rw (e10, e9, e8, e7, e6, e5, e4, e3, e2, e1) (simp (append_assoc, append-nil))
