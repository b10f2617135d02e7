-- A command by its first word, and by what stands behind that.
use Rattle.std.proofs.Common.{◌≡◌, ◌≢◌, ℕ, ◌+◌, true, false, List, [], ◌∷◌, ◌++◌, take, refl, sym, ap, subst, ◌∙◌, add-one, arith}
use Rattle.std.specs.Prelude.{codes}
use Rattle.std.specs.Str.{bytes_eq}
use Rattle.std.proofs.lemmas.Bool.{false≢true}
use Rattle.vx_words.specs.Words.{Command, Given, ImageFile, AskFor, AreOutside, AreBegun, IsFirstBad, job_word}
use Rattle.vx_words.specs.Words.Command.{Execute, Dis, Asm}
use Rattle.vx_words.specs.declared.image_job.ImageJob.{ImageJob}
use Rattle.vx_words.specs.declared.image_job.ImageJob.TheVariants.{Run, Alone}
use Rattle.vx_read.specs.Behind.{AreOptionsAndImage}
use Rattle.vx_read.specs.Files.{IsOneFile, AreOneFile, AreBad}
use Rattle.vx_read.proofs.Heads.{asks, asked}
use Rattle.vx_read.proofs.OneFile.{some_file, one_name}
use Rattle.vx_read.proofs.Whole.{AreOf, one_reading}

-- the command's word
abbrev pub word_of : Command → List ℕ
word_of (Execute job givens image) = job_word job
word_of (Dis name) = codes "dis"
word_of (Asm name) = codes "asm"

begins : (words : List (List ℕ)) (command : Command) → AskFor words command → (rest : List (List ℕ)) × (words ≡ word_of command ∷ rest)
begins words (Execute job givens image) asks = (asks.0 ++ asks.1 ∷ [], asks.2)
begins words (Dis name) asks = (name ∷ [], asks.0)
begins words (Asm name) asks = (name ∷ [], asks.0)

word_is : (word : List ℕ) (rest : List (List ℕ)) (command : Command) → AskFor (word ∷ rest) command → word ≡ word_of command
word_is word rest command asks = let begun = begins (word ∷ rest) command asks in let e = begun.1 in cc

-- the words ask for no command of another word
other_word : (word : List ℕ) (rest : List (List ℕ)) (command : Command) → bytes_eq word (word_of command) ≡ false → bytes_eq word word ≡ true → AskFor (word ∷ rest) command → ⊥
other_word word rest command other same asks =
    false≢true (sym other ∙ sym (ap (bytes_eq word) (word_is word rest command asks)) ∙ same)

-- behind this word, exactly the words that fit make a command, and they make one
pub record IsWordOf (word : List ℕ) (Fit : List (List ℕ) → Type 0) : Type 0 where
  pub some : (words : List (List ℕ)) → Fit words → (command : Command) × AskFor (word ∷ words) command
  pub only : (words : List (List ℕ)) (command : Command) → AskFor (word ∷ words) command → Fit words
  pub same : (words : List (List ℕ)) (one other : Command) → AskFor (word ∷ words) one → AskFor (word ∷ words) other → one ≡ other

-- a job with an image
abbrev JobOn : ImageJob → List (List ℕ) → Command → Type 0
JobOn Run words (Execute Run givens image) = AreOptionsAndImage Run words givens image
JobOn Alone words (Execute Alone givens image) = AreOptionsAndImage Alone words givens image
JobOn job words other = ⊥

job_on : (job : ImageJob) (words : List (List ℕ)) (command : Command) → AskFor (job_word job ∷ words) command → JobOn job words command
job_on Run words (Execute Run givens image) asks = asked Run words givens image asks
job_on Run words other asks = other_word (codes "run") words other refl refl asks
job_on Alone words (Execute Alone givens image) asks = asked Alone words givens image asks
job_on Alone words other asks = other_word (codes "alone") words other refl refl asks

job_fits : (job : ImageJob) (words : List (List ℕ)) (command : Command) → JobOn job words command → AreOf job words
job_fits Run words (Execute Run givens image) on = (givens, image, on)
job_fits Alone words (Execute Alone givens image) on = (givens, image, on)
job_fits job words other on = absurd on

one_execution : (job : ImageJob) (words : List (List ℕ)) (givens others : List Given) (image more : ImageFile) → AreOptionsAndImage job words givens image → AreOptionsAndImage job words others more → Execute job givens image ≡ Execute job others more
one_execution job words givens others image more on_one on_other =
    let same = one_reading job words givens others image more on_one on_other in
    let givens_are = same.0 in
    let images_are = same.1 in cc

job_same : (job : ImageJob) (words : List (List ℕ)) (one other : Command) → JobOn job words one → JobOn job words other → one ≡ other
job_same Run words (Execute Run givens image) (Execute Run others more) on_one on_other = one_execution Run words givens others image more on_one on_other
job_same Alone words (Execute Alone givens image) (Execute Alone others more) on_one on_other = one_execution Alone words givens others image more on_one on_other
job_same Run words (Execute Run givens image) other on_one on_other = absurd on_other
job_same Alone words (Execute Alone givens image) other on_one on_other = absurd on_other
job_same job words one other on_one on_other = absurd on_one

pub word_of_job : (job : ImageJob) → IsWordOf (job_word job) (AreOf job)
word_of_job job = record {
  some = λ words fit. (Execute job fit.0 fit.1, asks job words fit.0 fit.1 fit.2);
  only = λ words command asks. job_fits job words command (job_on job words command asks);
  same = λ words one other asks_one asks_other. job_same job words one other (job_on job words one asks_one) (job_on job words other asks_other);
}

-- `dis`
abbrev DisOn : List (List ℕ) → Command → Type 0
DisOn words (Dis name) = IsOneFile words name
DisOn words other = ⊥

dis_on : (words : List (List ℕ)) (command : Command) → AskFor (codes "dis" ∷ words) command → DisOn words command
dis_on words (Dis name) asks = let e = asks.0 in (cc, asks.1)
dis_on words (Execute Run givens image) asks = absurd (other_word (codes "dis") words (Execute Run givens image) refl refl asks)
dis_on words (Execute Alone givens image) asks = absurd (other_word (codes "dis") words (Execute Alone givens image) refl refl asks)
dis_on words other asks = absurd (other_word (codes "dis") words other refl refl asks)

dis_fits : (words : List (List ℕ)) (command : Command) → DisOn words command → AreOneFile words
dis_fits words (Dis name) on = (name, on)
dis_fits words other on = absurd on

dis_same : (words : List (List ℕ)) (one other : Command) → DisOn words one → DisOn words other → one ≡ other
dis_same words (Dis name) (Dis more) on_one on_other = ap (λ n. Dis n) (one_name words name more on_one on_other)
dis_same words (Dis name) other on_one on_other = absurd on_other
dis_same words one other on_one on_other = absurd on_one

pub dis_asks : (words : List (List ℕ)) (name : List ℕ) → IsOneFile words name → AskFor (codes "dis" ∷ words) (Dis name)
dis_asks words name one = (ap (λ w. codes "dis" ∷ w) one.0, one.1)

pub dis_word : IsWordOf (codes "dis") AreOneFile
dis_word = record {
  some = λ words fit. (Dis fit.0, dis_asks words fit.0 fit.1);
  only = λ words command asks. dis_fits words command (dis_on words command asks);
  same = λ words one other asks_one asks_other. dis_same words one other (dis_on words one asks_one) (dis_on words other asks_other);
}

-- `asm`
abbrev AsmOn : List (List ℕ) → Command → Type 0
AsmOn words (Asm name) = IsOneFile words name
AsmOn words other = ⊥

asm_on : (words : List (List ℕ)) (command : Command) → AskFor (codes "asm" ∷ words) command → AsmOn words command
asm_on words (Asm name) asks = let e = asks.0 in (cc, asks.1)
asm_on words (Execute Run givens image) asks = absurd (other_word (codes "asm") words (Execute Run givens image) refl refl asks)
asm_on words (Execute Alone givens image) asks = absurd (other_word (codes "asm") words (Execute Alone givens image) refl refl asks)
asm_on words other asks = absurd (other_word (codes "asm") words other refl refl asks)

asm_fits : (words : List (List ℕ)) (command : Command) → AsmOn words command → AreOneFile words
asm_fits words (Asm name) on = (name, on)
asm_fits words other on = absurd on

asm_same : (words : List (List ℕ)) (one other : Command) → AsmOn words one → AsmOn words other → one ≡ other
asm_same words (Asm name) (Asm more) on_one on_other = ap (λ n. Asm n) (one_name words name more on_one on_other)
asm_same words (Asm name) other on_one on_other = absurd on_other
asm_same words one other on_one on_other = absurd on_one

asm_asks : (words : List (List ℕ)) (name : List ℕ) → IsOneFile words name → AskFor (codes "asm" ∷ words) (Asm name)
asm_asks words name one = (ap (λ w. codes "asm" ∷ w) one.0, one.1)

pub asm_word : IsWordOf (codes "asm") AreOneFile
asm_word = record {
  some = λ words fit. (Asm fit.0, asm_asks words fit.0 fit.1);
  only = λ words command asks. asm_fits words command (asm_on words command asks);
  same = λ words one other asks_one asks_other. asm_same words one other (asm_on words one asks_one) (asm_on words other asks_other);
}

-- words that don't fit behind a command's word
pub outside_by : (word : List ℕ) (Fit : List (List ℕ) → Type 0) (words rest : List (List ℕ)) (index : ℕ) → IsWordOf word Fit → words ≡ word ∷ rest → AreBad Fit rest index → AreOutside words
outside_by word Fit words rest index of is bad command asks =
    let Asks : List (List ℕ) → Type 0 = λ w. AskFor w command in bad.outside (of.only rest command (subst Asks is asks))

first_bad_behind : (word : List ℕ) (Fit : List (List ℕ) → Type 0) (rest : List (List ℕ)) (index : ℕ) → IsWordOf word Fit → AreBad Fit rest index → IsFirstBad (word ∷ rest) (index + 1)
first_bad_behind word Fit rest index of bad =
    let within = bad.within in
    let some = of.some (take index rest ++ bad.begun.0) bad.begun.1 in
    record {
      begun = rw add-one (bad.begun.0, some.0, some.1);
      within = omega arith;
      bad = λ inside begun.
          let e : take (index + 1 + 1) (word ∷ rest) ≡ word ∷ take (index + 1) rest = rw (add-one (index + 1)) refl in
          let Begun : List (List ℕ) → Type 0 = λ w. AreBegun w in
          let shorter = subst Begun e begun in
          bad.bad (omega arith) shorter.0 (of.only (take (index + 1) rest ++ shorter.0) shorter.1 shorter.2);
    }

pub first_bad_by : (word : List ℕ) (Fit : List (List ℕ) → Type 0) (words rest : List (List ℕ)) (index : ℕ) → IsWordOf word Fit → words ≡ word ∷ rest → AreBad Fit rest index → IsFirstBad words (index + 1)
first_bad_by word Fit words rest index of is bad =
    let First : List (List ℕ) → Type 0 = λ w. IsFirstBad w (index + 1) in subst First (sym is) (first_bad_behind word Fit rest index of bad)

-- no words at all, and words that don't begin with a command's
begun_none : AreBegun []
begun_none = let some = dis_word.some some_file.0 some_file.1 in (codes "dis" ∷ some_file.0, some.0, some.1)

pub first_bad_none : IsFirstBad [] 0
first_bad_none = record { begun = begun_none; within = omega arith; bad = λ inside begun. absurd (omega arith) }

no_word : (word : List ℕ) (command : Command) → word ≢ codes "run" → word ≢ codes "alone" → word ≢ codes "dis" → word ≢ codes "asm" → word ≡ word_of command → ⊥
no_word word (Execute Run givens image) no_run no_alone no_dis no_asm is = no_run is
no_word word (Execute Alone givens image) no_run no_alone no_dis no_asm is = no_alone is
no_word word (Dis name) no_run no_alone no_dis no_asm is = no_dis is
no_word word (Asm name) no_run no_alone no_dis no_asm is = no_asm is

pub outside_command : (word : List ℕ) (rest : List (List ℕ)) → word ≢ codes "run" → word ≢ codes "alone" → word ≢ codes "dis" → word ≢ codes "asm" → AreOutside (word ∷ rest)
outside_command word rest no_run no_alone no_dis no_asm command asks = no_word word command no_run no_alone no_dis no_asm (word_is word rest command asks)

pub first_bad_command : (word : List ℕ) (rest : List (List ℕ)) → word ≢ codes "run" → word ≢ codes "alone" → word ≢ codes "dis" → word ≢ codes "asm" → IsFirstBad (word ∷ rest) 0
first_bad_command word rest no_run no_alone no_dis no_asm = record {
  begun = begun_none;
  within = omega arith;
  bad = λ inside begun. outside_command word begun.0 no_run no_alone no_dis no_asm begun.1 begun.2;
}

-- the words ask for one command
one_by : (word : List ℕ) (Fit : List (List ℕ) → Type 0) (words rest : List (List ℕ)) (one other : Command) → IsWordOf word Fit → words ≡ word ∷ rest → AskFor words one → AskFor words other → one ≡ other
one_by word Fit words rest one other of is asks_one asks_other =
    let One : List (List ℕ) → Type 0 = λ w. AskFor w one in
    let Other : List (List ℕ) → Type 0 = λ w. AskFor w other in of.same rest one other (subst One is asks_one) (subst Other is asks_other)

pub one_command : (words : List (List ℕ)) (one other : Command) → AskFor words one → AskFor words other → one ≡ other
one_command words (Execute job givens image) other asks_one asks_other = one_by (job_word job) (AreOf job) words (asks_one.0 ++ asks_one.1 ∷ []) (Execute job givens image) other (word_of_job job) asks_one.2 asks_one asks_other
one_command words (Dis name) other asks_one asks_other = one_by (codes "dis") AreOneFile words (name ∷ []) (Dis name) other dis_word asks_one.0 asks_one asks_other
one_command words (Asm name) other asks_one asks_other = one_by (codes "asm") AreOneFile words (name ∷ []) (Asm name) other asm_word asks_one.0 asks_one asks_other
