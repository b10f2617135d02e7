-- The run of the words that are made, made and put.
use Rattle.std.proofs.Common.{◌≡◌, ℕ, ◌+◌, ◌<◌, ◌≤◌, length, slice_index, take, refl, ap, ◌∙◌, subst, arith}
use Rattle.std.proofs.lemmas.List.{get_or-take, length-take-le}
use Rattle.vx_mask.specs.Kinds.{is_telling}
use Rattle.vx_operands.specs.Forms.{family_in}
use Rattle.vx_vector.specs.Arithmetic.{words_after}
use Rattle.vx_vstate.specs.Registers.{place_of, word_at, words_of_all}
use Rattle.vx_vstate.specs.State.{SettingView, VectorState, finished}
use Rattle.vx_vstate.specs.Views.{view_of}
use Rattle.vx_exec.specs.Executed.{reads}
use Rattle.vx_exec.proofs.Executes.{Facts, facts-for, run-within, run-small, run-few, run-room, all-done}
use Rattle.vx_exec.proofs.Runs.{untold}
use Rattle.vx_exec.proofs.calculator.write.Goals as goal

pub make-sat-requires-clause-within : goal.make-sat-requires-clause-within
make-sat-requires-clause-within c =
    let r = reads c.args.i.now (view_of c.args.at.now) c.args.v.now.words in
    let facts : Facts r c.run_by-run.result = facts-for c.args.i.now (view_of c.args.at.now) c.args.v.now.words c.args.family c.run_by-run.result c.requires.class c.requires.writes c.run_by-run.ensures c.reads_soundly.ensures c.words_are_made.ensures.inside c.words_are_made.ensures.sat c.other_words_stay.ensures.count c.other_words_stay.ensures.outside c.other_words_stay.ensures.unmade in
    run-within r c.run_by-run.result facts

pub make-sat-requires-clause-small : goal.make-sat-requires-clause-small
make-sat-requires-clause-small c =
    let r = reads c.args.i.now (view_of c.args.at.now) c.args.v.now.words in
    let facts : Facts r c.run_by-run.result = facts-for c.args.i.now (view_of c.args.at.now) c.args.v.now.words c.args.family c.run_by-run.result c.requires.class c.requires.writes c.run_by-run.ensures c.reads_soundly.ensures c.words_are_made.ensures.inside c.words_are_made.ensures.sat c.other_words_stay.ensures.count c.other_words_stay.ensures.outside c.other_words_stay.ensures.unmade in
    run-small r c.run_by-run.result facts

pub make-sat-requires-clause-room : goal.make-sat-requires-clause-room
make-sat-requires-clause-room c =
    let r = reads c.args.i.now (view_of c.args.at.now) c.args.v.now.words in
    let facts : Facts r c.run_by-run.result = facts-for c.args.i.now (view_of c.args.at.now) c.args.v.now.words c.args.family c.run_by-run.result c.requires.class c.requires.writes c.run_by-run.ensures c.reads_soundly.ensures c.words_are_made.ensures.inside c.words_are_made.ensures.sat c.other_words_stay.ensures.count c.other_words_stay.ensures.outside c.other_words_stay.ensures.unmade in
    let few : c.run_by-run.result.count ≤ 1024 = run-few r c.run_by-run.result facts in
    omega (arith, few, c.requires.room)

pub slice_bounds-put_words-end : goal.slice_bounds-put_words-end
slice_bounds-put_words-end c =
    let r = reads c.args.i.now (view_of c.args.at.now) c.args.v.now.words in
    let facts : Facts r c.run_by-run.result = facts-for c.args.i.now (view_of c.args.at.now) c.args.v.now.words c.args.family c.run_by-run.result c.requires.class c.requires.writes c.run_by-run.ensures c.reads_soundly.ensures c.words_are_made.ensures.inside c.words_are_made.ensures.sat c.other_words_stay.ensures.count c.other_words_stay.ensures.outside c.other_words_stay.ensures.unmade in
    let few : c.run_by-run.result.count ≤ 1024 = run-few r c.run_by-run.result facts in
    omega (arith, few, c.requires.room, c.make-sat.ensures.room)

pub slice_bounds-put_words-end-2 : goal.slice_bounds-put_words-end-2
slice_bounds-put_words-end-2 c =
    let r = reads c.args.i.now (view_of c.args.at.now) c.args.v.now.words in
    let facts : Facts r c.run_by-run.result = facts-for c.args.i.now (view_of c.args.at.now) c.args.v.now.words c.args.family c.run_by-run.result c.requires.class c.requires.writes c.run_by-run.ensures c.reads_soundly.ensures c.words_are_made.ensures.inside c.words_are_made.ensures.sat c.other_words_stay.ensures.count c.other_words_stay.ensures.outside c.other_words_stay.ensures.unmade in
    let few : c.run_by-run.result.count ≤ 1024 = run-few r c.run_by-run.result facts in
    let count = c.run_by-run.result.count in
    let long : length (take count c.make-sat.new.made) ≡ count = length-take-le count c.make-sat.new.made (omega (arith, few, c.requires.room, c.make-sat.ensures.room)) in
    omega (arith, long)

pub put_words-requires : goal.put_words-requires
put_words-requires c =
    let r = reads c.args.i.now (view_of c.args.at.now) c.args.v.now.words in
    let facts : Facts r c.run_by-run.result = facts-for c.args.i.now (view_of c.args.at.now) c.args.v.now.words c.args.family c.run_by-run.result c.requires.class c.requires.writes c.run_by-run.ensures c.reads_soundly.ensures c.words_are_made.ensures.inside c.words_are_made.ensures.sat c.other_words_stay.ensures.count c.other_words_stay.ensures.outside c.other_words_stay.ensures.unmade in
    let vlen : c.args.at.now.vlen ≡ c.args.v.now.vlen = ap (λ (s : SettingView). s.vlen) c.requires.setting in
    let count = c.run_by-run.result.count in
    let few : count ≤ 1024 = run-few r c.run_by-run.result facts in
    let long : length (take count c.make-sat.new.made) ≡ count = length-take-le count c.make-sat.new.made (omega (arith, few, c.requires.room, c.make-sat.ensures.room)) in
    let room : place_of c.args.at.now.vlen c.args.i.now.rd c.run_by-run.result.first + length (take count c.make-sat.new.made) ≤ words_of_all c.args.at.now.vlen = omega (arith, run-room r c.run_by-run.result facts, long) in
    record { within = subst (λ n. place_of n c.args.i.now.rd c.run_by-run.result.first + length (take count c.make-sat.new.made) ≤ words_of_all n) vlen room }

pub returns-clause-done : goal.returns-clause-done
returns-clause-done c =
    let r = reads c.args.i.now (view_of c.args.at.now) c.args.v.now.words in
    let facts : Facts r c.run_by-run.result = facts-for c.args.i.now (view_of c.args.at.now) c.args.v.now.words c.args.family c.run_by-run.result c.requires.class c.requires.writes c.run_by-run.ensures c.reads_soundly.ensures c.words_are_made.ensures.inside c.words_are_made.ensures.sat c.other_words_stay.ensures.count c.other_words_stay.ensures.outside c.other_words_stay.ensures.unmade in
    let vlen : c.args.at.now.vlen ≡ c.args.v.now.vlen = ap (λ (s : SettingView). s.vlen) c.requires.setting in
    let few : c.run_by-run.result.count ≤ 1024 = run-few r c.run_by-run.result facts in
    let count = c.run_by-run.result.count in
    let long : length (take count c.make-sat.new.made) ≡ count = length-take-le count c.make-sat.new.made (omega (arith, few, c.requires.room, c.make-sat.ensures.room)) in
    let made : (k : ℕ) → k < count → slice_index (take count c.make-sat.new.made) k ≡ word_at c.args.at.now.vlen (words_after r) c.args.i.now.rd (c.run_by-run.result.first + k) =
    λ k l. get_or-take count c.make-sat.new.made k 0 l ∙ c.make-sat.ensures.made k l in
    all-done r c.run_by-run.result facts c.args.v.now c.finish.new.self _ c.make-sat.result vlen refl long made c.make-sat.ensures.sat (c.finish.ensures ∙ ap (λ (s : VectorState). finished s 0 c.make-sat.result) c.put_words.ensures)

pub returns-clause-told : goal.returns-clause-told
returns-clause-told c =
    let r = reads c.args.i.now (view_of c.args.at.now) c.args.v.now.words in
    untold r (ap (λ k. is_telling (family_in k)) c.requires.class ∙ c.requires.writes)
