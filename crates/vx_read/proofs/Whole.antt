-- From the words behind the word of a job to all of them.
use Rattle.std.proofs.Common.{◌≡◌, ℕ, true, false, ◌+◌, ◌<◌, ◌≤◌, List, [], ◌∷◌, ◌++◌, take, drop, Option, Some, None, IfSome, sym, ap, subst, ◌∙◌, ⊎_elim, append_assoc, arith}
use Rattle.std.proofs.lemmas.List.{take-take, take-append-drop}
use Rattle.std.proofs.lemmas.Bool.{cases_lt}
use Rattle.vx_words.specs.Words.{OptionName, Given, is_same, given_number, IsInRange, job_word, ImageFile, AskFor, AreBegun, IsFirstBad}
use Rattle.vx_words.specs.Words.OptionName.{Vlen, Window, Lanes, Banks, BankTime, Frames, Budget}
use Rattle.vx_words.specs.Words.Command.{Execute}
use Rattle.vx_words.specs.declared.image_job.ImageJob.{ImageJob}
use Rattle.vx_read.specs.declared.numbers.Numbers.{Numbers}
use Rattle.vx_read.specs.declared.run_words.RunWords.{RunWords}
use Rattle.vx_read.specs.Numbers.{nothing, IsRunOf}
use Rattle.vx_read.specs.Behind.{AreOptionsAndImage, AreNew, AreBadBehind, AreReadBehind}
use Rattle.vx_read.specs.Files.{AreBad}
use Rattle.vx_read.specs.Read.{AreRead}
use Rattle.vx_read.proofs.Spellings.{same_option}
use Rattle.vx_read.proofs.Heads.{asks, image_head, spelled_head}
use Rattle.vx_read.proofs.Onward.{true_or_false}

-- a number that is given lies in its range
given_in_range : (job : ImageJob) (words : List (List ℕ)) (givens : List Given) (image : ImageFile) (option : OptionName) (number : ℕ) → AreOptionsAndImage job words givens image → given_number option givens ≡ Some number → IsInRange (record { option = option; number = number })
given_in_range job words [] image option number t given = absurd (cc)
given_in_range job words (first ∷ givens) image option number t given =
    ⊎_elim
    (λ (same : is_same first.option option ≡ true).
    let here : Some first.number ≡ Some number = rw same at given in
    let number_is : first.number ≡ number = cc in
    let make : OptionName → ℕ → Given = λ o n. record { option = o; number = n } in
    let InRange : OptionName → Type 0 = λ o. IsInRange (make o first.number) in
    let Number : ℕ → Type 0 = λ n. IsInRange (make option n) in
    subst Number number_is (subst InRange (same_option first.option option same) t.2.1))
    (λ (other : is_same first.option option ≡ false). given_in_range job t.0 givens image option number t.4 (rw other at given))
    (true_or_false (is_same first.option option))

in_range_if : (had : Option ℕ) (option : OptionName) (givens : List Given) → had ≡ given_number option givens → ((number : ℕ) → given_number option givens ≡ Some number → IsInRange (record { option = option; number = number })) → IfSome had (λ number. IsInRange (record { option = option; number = number }))
in_range_if None option givens is ranges = tt
in_range_if (Some number) option givens is ranges = ranges number (sym is)

pub read_whole : (job : ImageJob) (words : List (List ℕ)) (final : Numbers) (image : ImageFile) (run : RunWords) → AreReadBehind job nothing final words image → IsRunOf final image run → AreRead job (job_word job ∷ words) run
read_whole job words final image run read is =
    let givens = read.givens in
    let vlen : run.vlen ≡ given_number Vlen givens = is.vlen ∙ read.numbers Vlen in
    let window : run.window ≡ given_number Window givens = is.window ∙ read.numbers Window in
    let lanes : run.lanes ≡ given_number Lanes givens = is.lanes ∙ read.numbers Lanes in
    let banks : run.banks ≡ given_number Banks givens = is.banks ∙ read.numbers Banks in
    let bank_time : run.bank_time ≡ given_number BankTime givens = is.bank_time ∙ read.numbers BankTime in
    let frames : run.frames ≡ given_number Frames givens = is.frames ∙ read.numbers Frames in
    let budget : run.budget ≡ given_number Budget givens = is.budget ∙ read.numbers Budget in
    let ranges : (option : OptionName) (number : ℕ) → given_number option givens ≡ Some number → IsInRange (record { option = option; number = number }) = λ option number given. given_in_range job words givens image option number read.asked given in
    let Asks : ImageFile → Type 0 = λ i. AskFor (job_word job ∷ words) (Execute job givens i) in
    record {
      givens = givens;
      asked = subst Asks (sym is.image_is) (asks job words givens image read.asked);
      vlen = vlen;
      window = window;
      lanes = lanes;
      banks = banks;
      bank_time = bank_time;
      frames = frames;
      budget = budget;
      in_range = record {
        vlen = in_range_if run.vlen Vlen givens vlen (ranges Vlen);
        window = in_range_if run.window Window givens window (ranges Window);
        lanes = in_range_if run.lanes Lanes givens lanes (ranges Lanes);
        banks = in_range_if run.banks Banks givens banks (ranges Banks);
        bank_time = in_range_if run.bank_time BankTime givens bank_time (ranges BankTime);
        frames = in_range_if run.frames Frames givens frames (ranges Frames);
        budget = in_range_if run.budget Budget givens budget (ranges Budget);
      };
    }

nothing_new : (givens : List Given) → AreNew nothing givens
nothing_new givens Vlen number has = absurd (cc)
nothing_new givens Window number has = absurd (cc)
nothing_new givens Lanes number has = absurd (cc)
nothing_new givens Banks number has = absurd (cc)
nothing_new givens BankTime number has = absurd (cc)
nothing_new givens Frames number has = absurd (cc)
nothing_new givens Budget number has = absurd (cc)

-- the words behind the word of the job
abbrev pub AreOf : ImageJob → List (List ℕ) → Type 0
AreOf job words = (givens : List Given) × (image : ImageFile) × AreOptionsAndImage job words givens image

pub job_bad : (job : ImageJob) (words : List (List ℕ)) (index : ℕ) → AreBadBehind job nothing words index → AreBad (AreOf job) words index
job_bad job words index bad = record {
  outside = λ fit. bad.outside fit.0 fit.1 fit.2 (nothing_new fit.0);
  begun = (bad.begun.rest, (bad.begun.givens, bad.begun.image, bad.begun.asked));
  within = bad.within;
  bad = λ inside rest fit. bad.bad inside (record { rest = rest; givens = fit.0; image = fit.1; asked = fit.2; new = nothing_new fit.0 });
}

-- the words are read in one way
pub one_reading : (job : ImageJob) (words : List (List ℕ)) (one other : List Given) (image more : ImageFile) → AreOptionsAndImage job words one image → AreOptionsAndImage job words other more → (one ≡ other) × (image ≡ more)
one_reading job words [] other image more t asked_more =
    let Asked : List (List ℕ) → Type 0 = λ w. AreOptionsAndImage job w other more in
    let end = image_head job t.0 [] other image more t.2 (subst Asked t.1 asked_more) in
    (sym end.no_givens, sym end.same_image)
one_reading job words (given ∷ later) other image more t asked_more =
    let h = spelled_head job words given t.0 other more t.1 t.2 asked_more in
    let rest = one_reading job t.0 later h.later image more t.4 h.asked in
    (ap (λ l. given ∷ l) rest.0 ∙ sym h.givens_are, rest.1)

-- what begins a command does so up to any word
begun_before : (words : List (List ℕ)) (n : ℕ) → AreBegun words → AreBegun (take n words)
begun_before words n begun =
    let e : take n words ++ (drop n words ++ begun.0) ≡ words ++ begun.0 = sym (append_assoc (take n words) (drop n words) begun.0) ∙ ap (λ w. w ++ begun.0) (take-append-drop n words) in
    let Asks : List (List ℕ) → Type 0 = λ w. AskFor w begun.1 in
    (drop n words ++ begun.0, begun.1, subst Asks (sym e) begun.2)

not_before : (words : List (List ℕ)) (one other : ℕ) → IsFirstBad words one → IsFirstBad words other → one < other → ⊥
not_before words one other bad_one bad_other below =
    let within = bad_other.within in
    let Begun : List (List ℕ) → Type 0 = λ w. AreBegun w in
    bad_one.bad (omega arith) (subst Begun (take-take (one + 1) other words (omega arith)) (begun_before (take other words) (one + 1) bad_other.begun))

pub one_first_bad : (words : List (List ℕ)) (one other : ℕ) → IsFirstBad words one → IsFirstBad words other → one ≡ other
one_first_bad words one other bad_one bad_other =
    ⊎_elim
    (λ (below : one < other). absurd (not_before words one other bad_one bad_other below))
    (λ (above : other ≤ one).
    ⊎_elim
    (λ (below : other < one). absurd (not_before words other one bad_other bad_one below))
    (λ (above' : one ≤ other). omega arith)
    (cases_lt other one))
    (cases_lt one other)
