-- How writes to a sink follow one another.
use Rattle.std.proofs.Common.{◌≡◌, ℕ, ◌+◌, List, ◌++◌, take, drop, ap, subst, append_assoc, arith, ◌∙◌}
use Rattle.std.proofs.Math.Seq.{take-add}
use Rattle.std.specs.Prelude.{Option, Some, None, IfSome}
use Rattle.vx_base.specs.Sink.{SinkState, IsWritten, PutsFront}

-- bytes put behind bytes that were put
Appends-more : (a b c : Option (List ℕ)) (x y : List ℕ) → IfSome a (λ t. b ≡ Some (t ++ x)) → IfSome b (λ t. c ≡ Some (t ++ y)) → IfSome a (λ t. c ≡ Some (t ++ (x ++ y)))
Appends-more None b c x y p q = tt
Appends-more (Some t) b c x y p q =
    let Q : Option (List ℕ) → Type 0 = λ o. IfSome o (λ u. c ≡ Some (u ++ y)) in
    subst Q p q ∙ ap Some (append_assoc t x y)

-- a text behind a text
pub IsWritten-more : (a b c : SinkState) (x y : List ℕ) → IsWritten a b x → IsWritten b c y → IsWritten a c (x ++ y)
IsWritten-more a b c x y p q = record {
  appends = Appends-more a.bytes b.bytes c.bytes x y p.appends q.appends;
  faults = q.faults ∙ p.faults;
}

-- a part of a text that is written goes on with what a put takes of the rest
pub IsWritten-step : (a b c : SinkState) (text : List ℕ) (done n : ℕ) → IsWritten a b (take done text) → PutsFront b c (drop done text) n → IsWritten a c (take (done + n) text)
IsWritten-step a b c text done n p q = rw (take-add done n text) (IsWritten-more a b c (take done text) (take n (drop done text)) p q.written)
