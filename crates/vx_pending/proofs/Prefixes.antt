-- States within an instruction, from a memory that differs in pending bytes alone.
use Rattle.std.proofs.Common.{◌≡◌, ℕ, ◌≤◌, Bool, true, false, ◌&&◌, nat_eq, leb, if◌then◌else◌, refl, sym, ap, ◌∙◌, subst}
use Rattle.std.specs.Prelude.{Option, Some, None, is_none, option_and_then}
use Rattle.std.proofs.lemmas.Bool.{and_parts, leb-true}
use Rattle.std.proofs.lemmas.Option.{none-some, same_Some}
use Rattle.vx_decode.specs.declared.instr.Instr.{Instr}
use Rattle.vx_image.specs.Pages.{Memory}
use Rattle.vx_rows.specs.Table.{class_of}
use Rattle.vx_rows.specs.declared.row.Addressing.{Addressing}
use Rattle.vx_rows.specs.declared.row.Class.{Class}
use Rattle.vx_rows.specs.declared.row.Class.TheVariants.{VectorLoad, VectorStore}
use Rattle.vx_rows.specs.declared.row.Eew.{Eew}
use Rattle.vx_vector.specs.Accesses.{accesses_between}
use Rattle.vx_flat.specs.Prefix.{transfer_as, transfer_next, prefix_of, prefix_at}
use Rattle.vx_flat.specs.Splits.{IsWellFormed}
use Rattle.vx_flat.specs.State.{Flat, at_element}
use Rattle.vx_flat.specs.Step.{upcoming}
use Rattle.vx_flat.specs.Transfers.{Transfer, Failure, transfer, first_failure, below_done}
use Rattle.vx_flat.specs.Transfers.Direction.{Loading, Storing}
use Rattle.vx_flat.specs.declared.upcoming.Upcoming.{Upcoming}
use Rattle.vx_flat.specs.declared.upcoming.Upcoming.TheVariants.{Denied, Illegal, Instruction}
use Rattle.vx_pending.specs.Alike.{HaveSamePages, AreAlike, StandsFor, PrefixesAlike, with_memory, writes_memory, writes_next}
use Rattle.vx_pending.proofs.Loads.{loads-memory, loads-alike, exactly, stands}
use Rattle.vx_pending.proofs.Next.{Laws, upcoming-alike, none-pending}
use Rattle.vx_pending.proofs.Pages.{Agree, permits-alike}
use Rattle.vx_pending.proofs.Stored.{is-none}
use Rattle.vx_pending.proofs.Within.{below-alike, failures-alike}

pub itself : (s : Flat) (m : Memory) → AreAlike s m → StandsFor (with_memory m s) s
itself s m alike = record { is = refl; alike = alike }

-- no byte differs where no store comes next
pub quiet : (s : Flat) (m : Memory) → AreAlike s m → (i : Instr) → upcoming s ≡ Instruction i → (k : Class) → class_of i.op ≡ k → writes_memory k ≡ false → (c : ℕ) → Agree m s.memory c
quiet s m alike i h k q none c = alike.bytes c (none-pending s c (ap writes_next h ∙ ap writes_memory q ∙ none))

by-test : (b : Bool) (x y : Flat) → (b ≡ true → StandsFor x y) → PrefixesAlike (if b then Some x else None) (if b then Some y else None)
by-test true x y f = f refl
by-test false x y f = tt

module _ (L : Laws) (s : Flat) (m : Memory) (w : IsWellFormed s) (alike : AreAlike s m) (k : ℕ) where
  -- of a transfer that does the same from both
  prefix-of-alike : (t : Transfer) → (s.v.vstart ≤ k → first_failure t.direction s.memory (accesses_between t.movement 0 k) ≡ None → StandsFor (below_done t k (with_memory m s)) (below_done t k s)) → PrefixesAlike (prefix_of t k (with_memory m s)) (prefix_of t k s)
  prefix-of-alike t f =
      let l = accesses_between t.movement 0 k in
      subst (λ (o : Option Failure). PrefixesAlike (if leb s.v.vstart k && is_none o then Some (below_done t k (with_memory m s)) else None) (prefix_of t k s))
      (sym (failures-alike t.direction s.memory m (permits-alike m s.memory alike.pages) l))
      (by-test (leb s.v.vstart k && is_none (first_failure t.direction s.memory l)) (below_done t k (with_memory m s)) (below_done t k s)
      (λ e.
      let both = and_parts (leb s.v.vstart k) (is_none (first_failure t.direction s.memory l)) e in
      f (leb-true s.v.vstart k both.0) (is-none (first_failure t.direction s.memory l) both.1)))

  load-within : (a : Addressing) (e : Eew) (i : Instr) → upcoming s ≡ Instruction i → class_of i.op ≡ VectorLoad a e → StandsFor (below_done (transfer Loading a e s i) k (with_memory m s)) (below_done (transfer Loading a e s i) k s)
  load-within a e i h q =
      let l = accesses_between (transfer Loading a e s i).movement 0 k in
      let agree = quiet s m alike i h (VectorLoad a e) q refl in
      subst (λ u. StandsFor (at_element k u) (below_done (transfer Loading a e s i) k s)) (sym (loads-alike m l s agree))
      (stands (with_memory m (below_done (transfer Loading a e s i) k s)) (below_done (transfer Loading a e s i) k s) (exactly m (below_done (transfer Loading a e s i) k s)
      (subst (λ x. HaveSamePages m x) (sym (loads-memory l s)) alike.pages)
      (λ c. subst (λ x. Agree m x c) (sym (loads-memory l s)) (agree c))))

  prefix-as : (i : Instr) → upcoming s ≡ Instruction i → (c : Class) → class_of i.op ≡ c → PrefixesAlike (option_and_then (λ (t : Transfer). prefix_of t k (with_memory m s)) (transfer_as c (with_memory m s) i)) (option_and_then (λ (t : Transfer). prefix_of t k s) (transfer_as c s i))
  prefix-as i h (VectorLoad a e) q = prefix-of-alike (transfer Loading a e s i) (λ start good. load-within a e i h q)
  prefix-as i h (VectorStore a e) q = prefix-of-alike (transfer Storing a e s i) (below-alike L s m w alike a e i h q k)
  prefix-as i h c q = tt

  prefix-next : (u : Upcoming) → upcoming s ≡ u → PrefixesAlike (option_and_then (λ (t : Transfer). prefix_of t k (with_memory m s)) (transfer_next (with_memory m s) u)) (option_and_then (λ (t : Transfer). prefix_of t k s) (transfer_next s u))
  prefix-next Denied h = tt
  prefix-next (Illegal word) h = tt
  prefix-next (Instruction i) h = prefix-as i h (class_of i.op) refl

  here-or-on : (b : Bool) (x y : Option Flat) → PrefixesAlike x y → PrefixesAlike (if b then Some (with_memory m s) else x) (if b then Some s else y)
  here-or-on true x y h = itself s m alike
  here-or-on false x y h = h

  pub prefix-alike : PrefixesAlike (prefix_at k (with_memory m s)) (prefix_at k s)
  prefix-alike =
      here-or-on (nat_eq k s.v.vstart) _ _
      (subst (λ u. PrefixesAlike (option_and_then (λ (t : Transfer). prefix_of t k (with_memory m s)) (transfer_next (with_memory m s) u)) (option_and_then (λ (t : Transfer). prefix_of t k s) (transfer_next s (upcoming s))))
      (sym (upcoming-alike L s m w alike))
      (prefix-next (upcoming s) refl))

  -- ---- by what one of them is

  of-shown : (x y : Option Flat) (u : Flat) → PrefixesAlike x y → x ≡ Some u → (t : Flat) × (y ≡ Some t) × StandsFor u t
  of-shown None y u h e = absurd (none-some u e)
  of-shown (Some v) None u h e = absurd h
  of-shown (Some v) (Some t) u h e = (t, refl, subst (λ x. StandsFor x t) (same_Some v u e) h)

  pub prefix-shown : (u : Flat) → prefix_at k (with_memory m s) ≡ Some u → (t : Flat) × (prefix_at k s ≡ Some t) × StandsFor u t
  prefix-shown u e = of-shown (prefix_at k (with_memory m s)) (prefix_at k s) u prefix-alike e

  to-shown : (x y : Option Flat) (t : Flat) → PrefixesAlike x y → y ≡ Some t → (u : Flat) × (x ≡ Some u) × StandsFor u t
  to-shown x None t h e = absurd (none-some t e)
  to-shown None (Some v) t h e = absurd h
  to-shown (Some u) (Some v) t h e = (u, refl, subst (λ x. StandsFor u x) (same_Some v t e) h)

  pub prefix-there : (t : Flat) → prefix_at k s ≡ Some t → (u : Flat) × (prefix_at k (with_memory m s) ≡ Some u) × StandsFor u t
  prefix-there t e = to-shown (prefix_at k (with_memory m s)) (prefix_at k s) t prefix-alike e
