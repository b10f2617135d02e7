-- The first of the queue is made, and the other queues lose nothing.
use Rattle.std.proofs.Common.{◌≡◌, ℕ, ◌*◌, ◌<◌, [], List, length, get_or, Some, sym, ap, subst, refl, ◌∙◌, arith}
use Rattle.std.specs.Prelude.{position, remove}
use Rattle.std.proofs.lemmas.List.Quantifiers.{position-Some}
use Rattle.vx_cells.specs.Banks.{BanksView, is_on_bank, queue_of, AreWithin}
use Rattle.vx_cells.specs.declared.banks.Queued.{Queued}
use Rattle.vx_cells.proofs.Queues.{filter-none, bank_below, Serves-first, AreWithin-remove}
use Rattle.vx_cells.proofs.banks.Banks.serve.Goals as goal

pub unreachable-requires : goal.unreachable-requires
unreachable-requires g c =
    let none : position (is_on_bank c.self.inside.banks c.args.bank) c.self.inside.queued.items ≡ _ =
    ap (position (is_on_bank c.self.inside.banks c.args.bank)) (sym c.deref.ensures.0) ∙ sym c.first_on.ensures ∙ c.in_default.is in
    let empty : queue_of c.args.self.now c.args.bank ≡ [] =
    ap (λ (view : BanksView). queue_of view c.args.bank) (sym c.self.view_is) ∙ filter-none (is_on_bank c.self.inside.banks c.args.bank) c.self.inside.queued.items none in
    omega (arith, c.requires.waits, ap length empty)

pub bounds-self-inside-bank : goal.bounds-self-inside-bank
bounds-self-inside-bank g c =
    let found : position (is_on_bank c.self.inside.banks c.args.bank) c.self.inside.queued.items ≡ Some c.in-Some.place =
    ap (position (is_on_bank c.self.inside.banks c.args.bank)) (sym c.deref.ensures.0) ∙ sym c.first_on.ensures ∙ c.in-Some.is in
    omega (arith, c.self.invariant, bank_below c.self.inside.queued.items c.self.inside.banks c.args.bank c.in-Some.place c.self.invariant.0 found)

pub make-requires : goal.make-requires
make-requires g c =
    let items = c.self.inside.queued.items in
    let found : position (is_on_bank c.self.inside.banks c.args.bank) items ≡ Some c.in-Some.place =
    ap (position (is_on_bank c.self.inside.banks c.args.bank)) (sym c.deref.ensures.0) ∙ sym c.first_on.ensures ∙ c.in-Some.is in
    let all = subst (λ (view : BanksView). AreWithin view.queued (g.C.Cells.state c.args.cells.now).frames) (sym c.self.view_is) c.requires.within in
    let within = (position-Some (is_on_bank c.self.inside.banks c.args.bank) items c.in-Some.place c.remove-q.result found).0 in
    omega (arith, all c.in-Some.place c.remove-q.result within, ap (λ (q : Queued). q.word) c.remove-q.ensures.value)

pub returns-clause-serves : goal.returns-clause-serves
returns-clause-serves g c =
    let items = c.self.inside.queued.items in
    let bank = c.args.bank in
    let place = c.in-Some.place in
    let q = c.remove-q.result in
    let found : position (is_on_bank c.self.inside.banks bank) items ≡ Some place =
    ap (position (is_on_bank c.self.inside.banks bank)) (sym c.deref.ensures.0) ∙ sym c.first_on.ensures ∙ c.in-Some.is in
    Serves-first c.args.self.now _ bank place q _ _ _
    (subst (λ (view : BanksView). position (is_on_bank view.banks bank) view.queued ≡ Some place) c.self.view_is found)
    (c.remove-q.ensures.value ∙ ap (λ (view : BanksView). get_or view.queued place q) c.self.view_is)
    (rw (← c.self.view_is, c.remove-q.ensures.items, c.now.ensures) refl)
    c.make.ensures.makes
    (rw c.make.ensures.value refl)

pub returns-clause-kept : goal.returns-clause-kept
returns-clause-kept g c =
    let items = c.self.inside.queued.items in
    let place = c.in-Some.place in
    let found : position (is_on_bank c.self.inside.banks c.args.bank) items ≡ Some place =
    ap (position (is_on_bank c.self.inside.banks c.args.bank)) (sym c.deref.ensures.0) ∙ sym c.first_on.ensures ∙ c.in-Some.is in
    let all = subst (λ (view : BanksView). AreWithin view.queued (g.C.Cells.state c.args.cells.now).frames) (sym c.self.view_is) c.requires.within in
    let within = (position-Some (is_on_bank c.self.inside.banks c.args.bank) items place c.remove-q.result found).0 in
    subst (λ (qs : List Queued). AreWithin qs (g.C.Cells.state c.make.new.cells).frames) (sym c.remove-q.ensures.items)
    (subst (λ (frames : ℕ). AreWithin (remove items place) frames) (sym c.make.ensures.makes.frames)
    (AreWithin-remove items place (g.C.Cells.state c.args.cells.now).frames within all))
