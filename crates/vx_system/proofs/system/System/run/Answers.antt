use Rattle.std.proofs.Common.{◌≡◌, ◌<◌, ◌≤◌, true, false, ap, sym, ◌∙◌, rules}
use Rattle.std.specs.Prelude.{is_some}
use Rattle.vx_system.proofs.Rounds.{done, more, spent, start, still}
use Rattle.vx_system.specs.Runs.{SystemState}
use Rattle.vx_system.proofs.system.System.run.Goals as goal

pub loop-self-init : goal.loop-self-init
loop-self-init g c m h = start _ _ m h

pub round-requires-clause-stands : goal.round-requires-clause-stands
round-requires-clause-stands g c = still _ _ _ _ c.requires.stands c.loop-self.invariant

pub loop-self-preserved : goal.loop-self-preserved
loop-self-preserved g c m h =
    let view : c.loop-self.self.over ≡ c.self.inside.over = sym (ap (λ (s : SystemState). s.over) c.self.view_is) in
    let goes : is_some c.loop-self.self.over ≡ false = search rules in
    let early : c.loop-self.self.clock < c.loop-self.self.settings.budget = search rules in
    more _ _ _ _ _ m (c.loop-self.invariant m h) goes early c.round.ensures.round

pub returns-then-self : goal.returns-then-self
returns-then-self g c m h =
    let view : c.loop-self.self.over ≡ c.self.inside.over = sym (ap (λ (s : SystemState). s.over) c.self.view_is) in
    let goes : is_some c.loop-self.self.over ≡ false = search rules in
    let late : c.loop-self.self.settings.budget ≤ c.loop-self.self.clock = search rules in
    spent _ _ _ m (c.loop-self.invariant m h) goes late

pub returns : goal.returns
returns g c m h =
    let view : c.loop-self.self.over ≡ c.self.inside.over = sym (ap (λ (s : SystemState). s.over) c.self.view_is) in
    let ended : is_some c.loop-self.self.over ≡ true = search rules in
    done _ _ _ m (c.loop-self.invariant m h) ended
