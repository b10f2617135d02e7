-- A bank is ready where an access waits and its time is over.
use Rattle.std.proofs.Common.{◌≡◌, ℕ, ◌<◌, Some, None, get_or, sym, ap, subst, ◌∙◌, arith}
use Rattle.std.specs.Prelude.{position, IsTrue, Option}
use Rattle.std.proofs.lemmas.Bool.{false≢true}
use Rattle.vx_cells.specs.Banks.{BanksView, is_on_bank, IsFree, IsReady}
use Rattle.vx_cells.proofs.Queues.{bank_below, ready-none, ready-some}
use Rattle.vx_cells.proofs.banks.Banks.ready.Goals as goal

pub bounds-self-inside-bank : goal.bounds-self-inside-bank
bounds-self-inside-bank c =
    let found : position (is_on_bank c.self.inside.banks c.args.bank) c.self.inside.queued.items ≡ Some c.in-Some.field-0 =
    ap (position (is_on_bank c.self.inside.banks c.args.bank)) (sym c.deref.ensures.0) ∙ sym c.first_on.ensures ∙ c.in-Some.is in
    omega (arith, c.self.invariant, bank_below c.self.inside.queued.items c.self.inside.banks c.args.bank c.in-Some.field-0 c.self.invariant.0 found)

pub returns-in-None : goal.returns-in-None
returns-in-None c =
    let none : position (is_on_bank c.self.inside.banks c.args.bank) c.self.inside.queued.items ≡ None =
    ap (position (is_on_bank c.self.inside.banks c.args.bank)) (sym c.deref.ensures.0) ∙ sym c.first_on.ensures ∙ c.in-None.is in
    (λ never. absurd (false≢true never), λ ready. absurd (ready-none c.args.self.now c.args.bank c.args.now (subst (λ (view : BanksView). position (is_on_bank view.banks c.args.bank) view.queued ≡ None) c.self.view_is none) ready))

pub returns-in-Some : goal.returns-in-Some
returns-in-Some c =
    let found : position (is_on_bank c.self.inside.banks c.args.bank) c.self.inside.queued.items ≡ Some c.in-Some.field-0 =
    ap (position (is_on_bank c.self.inside.banks c.args.bank)) (sym c.deref.ensures.0) ∙ sym c.first_on.ensures ∙ c.in-Some.is in
    let P : BanksView → Type 0 = λ view. position (is_on_bank view.banks c.args.bank) view.queued ≡ Some c.in-Some.field-0 in
    let F : BanksView → Type 0 = λ view. IsFree (get_or view.served c.args.bank None) view.bank_time c.args.now in (
      λ over. ready-some c.args.self.now c.args.bank c.args.now c.in-Some.field-0 (subst P c.self.view_is found) (subst F c.self.view_is (c.is_over.ensures.0 over)),
      λ ready. c.is_over.ensures.1 (subst F (sym c.self.view_is) ready.is_free),
    )
