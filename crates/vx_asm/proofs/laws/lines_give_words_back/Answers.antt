use Rattle.std.proofs.Common.{◌≡◌, ℕ, Some, None, Result, Ok, Err, refl, sym, ap, ◌∙◌}
use Rattle.std.proofs.lemmas.Option.{none-some}
use Rattle.std.specs.Prelude.{List}
use Rattle.vx_elf.specs.declared.program.Program.{Program}
use Rattle.vx_language.specs.Assembly.{IsSourceOf, first_fault}
use Rattle.vx_language.specs.Faults.{first_of}
use Rattle.vx_language.specs.declared.fault.Fault.{Fault}
use Rattle.vx_asm.specs.Assembling.{Assembles, Tells}
use Rattle.vx_asm.specs.GivingBack.{GivesBack}
use Rattle.vx_asm.specs.declared.asm_fault.AsmFault.{AsmFault}
use Rattle.vx_asm.specs.declared.asm_fault.AsmFault.TheVariants.{NoMemory}
use Rattle.vx_asm.proofs.laws.lines_give_words_back.Goals as goal

-- a source without a fault has no first one
no-first : (source : List ℕ) (word : ℕ) → IsSourceOf source word → first_fault source ≡ None
unfolding first_of
no-first source word is = ap first_of is.faultless

none-told : (source : List ℕ) (fault : Fault) → first_fault source ≡ None → Tells source (Some fault) → ⊥
none-told source fault none tells = none-some fault (sym none ∙ tells)

gives : (source : List ℕ) (word : ℕ) (answer : Result Program AsmFault) → IsSourceOf source word → Assembles source answer → GivesBack word answer
gives source word (Ok program) is assembles = ap (λ (p : Program). p.code) assembles.program ∙ is.code
gives source word (Err NoMemory) is assembles = refl
gives source word (Err fault) is assembles = absurd (none-told source _ (no-first source word is) assembles)

pub returns-clause-bare : goal.returns-clause-bare
returns-clause-bare c = λ word answer small. gives _ word answer (c.lines_are_sources.ensures.bare word small)

pub returns-clause-ended : goal.returns-clause-ended
returns-clause-ended c = λ word answer small. gives _ word answer (c.lines_are_sources.ensures.ended word small)
