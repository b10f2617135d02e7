-- One file: what is read, and which word is the first bad one.
use Rattle.std.proofs.Common.{◌≡◌, ℕ, ◌<◌, List, [], ◌∷◌, length, refl, subst, arith}
use Rattle.std.specs.Prelude.{codes}
use Rattle.vx_words.specs.Words.{IsFile}
use Rattle.vx_read.specs.Files.{IsOneFile, AreOneFile, AreBad}

-- some words are a file
pub some_file : (rest : List (List ℕ)) × AreOneFile rest
some_file = (codes "x" ∷ [], (codes "x", (refl, λ e. omega arith)))

pub no_words : AreBad AreOneFile [] 0
no_words = record {
  outside = λ one. let e = one.1.0 in cc;
  begun = some_file;
  within = omega arith;
  bad = λ inside rest one. absurd (omega arith);
}

pub no_file : (word : List ℕ) (rest : List (List ℕ)) → (IsFile word → ⊥) → AreBad AreOneFile (word ∷ rest) 0
no_file word rest not = record {
  outside = never rest;
  begun = some_file;
  within = omega arith;
  bad = λ inside. never;
} where
  never : (more : List (List ℕ)) → AreOneFile (word ∷ more) → ⊥
  never more one =
      let e = one.1.0 in
      let same : one.0 ≡ word = cc in
      let File : List ℕ → Type 0 = λ w. IsFile w in not (subst File same one.1.1)

pub behind_file : (word : List ℕ) (rest : List (List ℕ)) → IsFile word → 0 < length rest → AreBad AreOneFile (word ∷ rest) 1
behind_file word [] file some = absurd (omega arith)
behind_file word (next ∷ rest) file some = record {
  outside = never rest;
  begun = ([], (word, (refl, file)));
  within = omega arith;
  bad = λ inside. never;
} where
  never : (more : List (List ℕ)) → AreOneFile (word ∷ next ∷ more) → ⊥
  never more one = let e = one.1.0 in cc

-- the words name one file
pub one_name : (words : List (List ℕ)) (one other : List ℕ) → IsOneFile words one → IsOneFile words other → one ≡ other
one_name words one other is_one is_other = let e = is_one.0 in let f = is_other.0 in cc
