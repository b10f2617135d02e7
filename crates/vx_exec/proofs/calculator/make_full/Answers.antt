-- The run begins at the first word.
use Rattle.std.proofs.Common.{◌≡◌, ℕ, List, length, ◌<◌, ◌≤◌, ◌+◌, ap, sym, ◌∙◌, subst, arith}
use Rattle.vx_operands.specs.Forms.{form_of, reading}
use Rattle.vx_vector.specs.Arithmetic.{words_after}
use Rattle.vx_vector.specs.Words.{destination_words}
use Rattle.vx_vector.specs.declared.places.Places.{Places}
use Rattle.vx_vstate.specs.Registers.{word_at}
use Rattle.vx_vstate.specs.Views.{view_of}
use Rattle.vx_exec.specs.Executed.{reads}
use Rattle.vx_exec.proofs.calculator.make_full.Goals as goal

pub full_words-requires-clause-within : goal.full_words-requires-clause-within
full_words-requires-clause-within c k l =
    let none : c.args.run.first ≤ 0 = c.if-run-gt0.false in
    let first : c.args.run.first + k ≡ k = omega (arith, none) in
    let at = view_of c.args.at.now in
    let inside : k < length (destination_words (reads c.args.i.now at c.args.v.now.words)) = subst (λ n. n < length (destination_words (reads c.args.i.now at c.args.v.now.words))) first (c.requires.within k l) in
    subst (λ (ws : List ℕ). k < length (destination_words (reading (form_of c.args.i.now.op) at c.places-regs.result ws))) (sym c.words.ensures)
    (subst (λ (p : Places). k < length (destination_words (reading (form_of c.args.i.now.op) at p c.args.v.now.words))) (sym c.places-regs.ensures) inside)

pub returns-in-Elem-clause-made : goal.returns-in-Elem-clause-made
returns-in-Elem-clause-made c k l =
    let none : c.args.run.first ≤ 0 = c.if-run-gt0.false in
    let first : k ≡ c.args.run.first + k = omega (arith, none) in
    let at = view_of c.args.at.now in
    c.full_words.ensures.made k l
    ∙ ap (λ (ws : List ℕ). word_at c.args.at.now.vlen (words_after (reading (form_of c.args.i.now.op) at c.places-regs.result ws)) c.places-regs.result.vd k) c.words.ensures
    ∙ ap (λ (p : Places). word_at c.args.at.now.vlen (words_after (reading (form_of c.args.i.now.op) at p c.args.v.now.words)) p.vd k) c.places-regs.ensures
    ∙ ap (λ n. word_at c.args.at.now.vlen (words_after (reads c.args.i.now at c.args.v.now.words)) c.args.i.now.rd n) first

pub full_words-requires-in-Mask-clause-within : goal.full_words-requires-in-Mask-clause-within
full_words-requires-in-Mask-clause-within c k l =
    let none : c.args.run.first ≤ 0 = c.if-run-gt0.false in
    let first : c.args.run.first + k ≡ k = omega (arith, none) in
    let at = view_of c.args.at.now in
    let inside : k < length (destination_words (reads c.args.i.now at c.args.v.now.words)) = subst (λ n. n < length (destination_words (reads c.args.i.now at c.args.v.now.words))) first (c.requires.within k l) in
    subst (λ (ws : List ℕ). k < length (destination_words (reading (form_of c.args.i.now.op) at c.places-regs.result ws))) (sym c.words-in-Mask.ensures)
    (subst (λ (p : Places). k < length (destination_words (reading (form_of c.args.i.now.op) at p c.args.v.now.words))) (sym c.places-regs.ensures) inside)

pub returns-in-Mask-clause-made : goal.returns-in-Mask-clause-made
returns-in-Mask-clause-made c k l =
    let none : c.args.run.first ≤ 0 = c.if-run-gt0.false in
    let first : k ≡ c.args.run.first + k = omega (arith, none) in
    let at = view_of c.args.at.now in
    c.full_words-in-Mask.ensures.made k l
    ∙ ap (λ (ws : List ℕ). word_at c.args.at.now.vlen (words_after (reading (form_of c.args.i.now.op) at c.places-regs.result ws)) c.places-regs.result.vd k) c.words-in-Mask.ensures
    ∙ ap (λ (p : Places). word_at c.args.at.now.vlen (words_after (reading (form_of c.args.i.now.op) at p c.args.v.now.words)) p.vd k) c.places-regs.ensures
    ∙ ap (λ n. word_at c.args.at.now.vlen (words_after (reads c.args.i.now at c.args.v.now.words)) c.args.i.now.rd n) first

pub full_words-requires-in-Perm-clause-within : goal.full_words-requires-in-Perm-clause-within
full_words-requires-in-Perm-clause-within c k l =
    let none : c.args.run.first ≤ 0 = c.if-run-gt0.false in
    let first : c.args.run.first + k ≡ k = omega (arith, none) in
    let at = view_of c.args.at.now in
    let inside : k < length (destination_words (reads c.args.i.now at c.args.v.now.words)) = subst (λ n. n < length (destination_words (reads c.args.i.now at c.args.v.now.words))) first (c.requires.within k l) in
    subst (λ (p : Places). k < length (destination_words (reading (form_of c.args.i.now.op) at p c.args.v.now.words))) (sym c.places-regs.ensures) inside

pub returns-in-Perm-clause-made : goal.returns-in-Perm-clause-made
returns-in-Perm-clause-made c k l =
    let none : c.args.run.first ≤ 0 = c.if-run-gt0.false in
    let first : k ≡ c.args.run.first + k = omega (arith, none) in
    let at = view_of c.args.at.now in
    c.full_words-in-Perm.ensures.made k l
    ∙ ap (λ (p : Places). word_at c.args.at.now.vlen (words_after (reading (form_of c.args.i.now.op) at p c.args.v.now.words)) p.vd k) c.places-regs.ensures
    ∙ ap (λ n. word_at c.args.at.now.vlen (words_after (reads c.args.i.now at c.args.v.now.words)) c.args.i.now.rd n) first
