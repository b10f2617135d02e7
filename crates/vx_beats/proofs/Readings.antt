-- What an instruction handles, of its operands and its setting.
use Rattle.std.proofs.Common.{◌≡◌, ℕ, List, Some, length, refl, sym, ap, ◌∙◌, subst}
use Rattle.std.specs.List.{range_with_len}
use Rattle.vx_beats.proofs.Groups.{beats-all}
use Rattle.vx_beats.specs.Words.{handled_operand, words_of}
use Rattle.vx_episode.specs.Footprint.{groups_made, groups_of}
use Rattle.vx_rows.specs.Families.{operands_of}
use Rattle.vx_rows.specs.declared.family.Family.{Family}
use Rattle.vx_rows.specs.declared.family.Family.TheVariants.{Vadd}
use Rattle.vx_rows.specs.declared.family.Operand.{Operand}
use Rattle.vx_rows.specs.declared.row.Class.{Class}
use Rattle.vx_rows.specs.declared.row.Class.TheVariants.{VectorArithmetic}
use Rattle.vx_rows.specs.declared.row.First.{First}
use Rattle.vx_rows.specs.declared.row.Shape.{Shape}
use Rattle.vx_rows.specs.declared.row.Shape.TheVariants.{Vector}
use Rattle.vx_rows.specs.declared.row.Vm.{Vm}
use Rattle.vx_vector.specs.Instructions.{reading_as}
use Rattle.vx_vector.specs.Reading.{Reading}
use Rattle.vx_vector.specs.Words.{handled_words}
use Rattle.vx_vector.specs.declared.places.Places.{Places}
use Rattle.vx_vstate.specs.State.{SettingView}

handled-as : (family : Family) (first : First) (vm : Vm) (at : SettingView) (places : Places) (words : List ℕ) → handled_words (record { family = family; first = first; vm = vm; at = at; places = places; words = words }) ≡ words_of (handled_operand (operands_of family)) at
handled-as Vadd first vm at places words = refl
handled-as other first vm at places words = refl

handled : (r : Reading) → handled_words r ≡ words_of (handled_operand (operands_of r.family)) r.at
handled r = handled-as r.family r.first r.vm r.at r.places r.words

-- the beats, of the words that are handled
pub beats-are : (r : Reading) (family : Family) (at : SettingView) (operand : Operand) (lanes first count beats : ℕ) → r.family ≡ family → r.at ≡ at → operand ≡ handled_operand (operands_of family) → words_of operand at ≡ range_with_len first count → length (groups_of lanes (range_with_len first count)) ≡ beats → length (groups_made r (groups_of lanes (handled_words r))) ≡ beats
beats-are r family at operand lanes first count beats f a o words groups =
    let same : words_of (handled_operand (operands_of r.family)) r.at ≡ words_of operand at = (λ j. words_of (handled_operand (operands_of (f j))) (a j)) ∙ ap (λ x. words_of x at) (sym o) in
    beats-all r (groups_of lanes (handled_words r))
    ∙ ap (λ w. length (groups_of lanes w)) (handled r ∙ same ∙ words)
    ∙ groups

-- what an instruction reads is of its family, under its setting
reads-by : (shape : Shape) (family : Family) (at : SettingView) (places : Places) (words : List ℕ) (r : Reading) → reading_as (VectorArithmetic family) shape at places words ≡ Some r → (r.family ≡ family) × (r.at ≡ at)
reads-by (Vector first second vm) family at places words r h =
    let q : record { family = family; first = first; vm = vm; at = at; places = places; words = words } ≡ r = cc in
    (sym (ap (λ (x : Reading). x.family) q), sym (ap (λ (x : Reading). x.at) q))
reads-by other family at places words r h = absurd (cc)

pub reads-as : (class : Class) (shape : Shape) (family : Family) (at : SettingView) (places : Places) (words : List ℕ) (r : Reading) → class ≡ VectorArithmetic family → reading_as class shape at places words ≡ Some r → (r.family ≡ family) × (r.at ≡ at)
reads-as class shape family at places words r c h =
    reads-by shape family at places words r (subst (λ k. reading_as k shape at places words ≡ Some r) c h)
