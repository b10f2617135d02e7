-- Entries as they are built, read again.
use Rattle.std.proofs.Common.{◌≡◌, ℕ, zero, suc, ◌+◌, ◌*◌, ◌<◌, ◌≤◌, Bool, true, false, eqb, inl, inr, Some, None, refl, sym, ap, lit<, ◌∙◌, arith}
use Rattle.std.specs.Prelude.{◌⊎◌, bit_or, IsTrue, Option, ◌||◌, if◌then◌else◌}
use Rattle.std.proofs.lemmas.Bool.{cases_Bool, cases_lt, eqb-true, ne_eqb, false≢true}
use Rattle.vx_base.specs.Pages.{is_page_permission}
use Rattle.vx_base.specs.Permissions.{grants}
use Rattle.vx_base.specs.declared.machine.Want.{Want}
use Rattle.vx_base.specs.declared.machine.Want.TheVariants.{Fetch, Load, Store}
use Rattle.vx_tables.specs.Entries.{pointer, page_bits, page_entry, frame_in, bits_in, has, is_pointer, permissions_in, leaf_answer, leaf_touched, leaf_written}
use Rattle.vx_tables.specs.Residency.{Place, is_store, found_at, touched, IsBelow}
use Rattle.vx_tables.specs.Residency.Place.{Away, Present}
use Rattle.vx_tables.specs.Walking.{PlacesAgree}

-- what the bits of a page say
record BitsSay (bits : ℕ) (a d : Bool) : Type 0 where
  small : page_bits bits a d < 256
  valid : has (page_bits bits a d) 17 ≡ true
  permissions : permissions_in (page_bits bits a d) ≡ bits
  dirty : has (page_bits bits a d) 128 ≡ d
  touched : bit_or (page_bits bits a d) 64 ≡ page_bits bits true d
  stored : bit_or (page_bits bits a d) 192 ≡ page_bits bits true true

all_bits : (permissions : ℕ) (accessed dirty : Bool) → permissions < 8 → BitsSay permissions accessed dirty
all_bits zero true true small = record { small = lit< tt; valid = refl; permissions = refl; dirty = refl; touched = refl; stored = refl }
all_bits zero true false small = record { small = lit< tt; valid = refl; permissions = refl; dirty = refl; touched = refl; stored = refl }
all_bits zero false true small = record { small = lit< tt; valid = refl; permissions = refl; dirty = refl; touched = refl; stored = refl }
all_bits zero false false small = record { small = lit< tt; valid = refl; permissions = refl; dirty = refl; touched = refl; stored = refl }
all_bits (suc zero) true true small = record { small = lit< tt; valid = refl; permissions = refl; dirty = refl; touched = refl; stored = refl }
all_bits (suc zero) true false small = record { small = lit< tt; valid = refl; permissions = refl; dirty = refl; touched = refl; stored = refl }
all_bits (suc zero) false true small = record { small = lit< tt; valid = refl; permissions = refl; dirty = refl; touched = refl; stored = refl }
all_bits (suc zero) false false small = record { small = lit< tt; valid = refl; permissions = refl; dirty = refl; touched = refl; stored = refl }
all_bits (suc (suc zero)) true true small = record { small = lit< tt; valid = refl; permissions = refl; dirty = refl; touched = refl; stored = refl }
all_bits (suc (suc zero)) true false small = record { small = lit< tt; valid = refl; permissions = refl; dirty = refl; touched = refl; stored = refl }
all_bits (suc (suc zero)) false true small = record { small = lit< tt; valid = refl; permissions = refl; dirty = refl; touched = refl; stored = refl }
all_bits (suc (suc zero)) false false small = record { small = lit< tt; valid = refl; permissions = refl; dirty = refl; touched = refl; stored = refl }
all_bits (suc (suc (suc zero))) true true small = record { small = lit< tt; valid = refl; permissions = refl; dirty = refl; touched = refl; stored = refl }
all_bits (suc (suc (suc zero))) true false small = record { small = lit< tt; valid = refl; permissions = refl; dirty = refl; touched = refl; stored = refl }
all_bits (suc (suc (suc zero))) false true small = record { small = lit< tt; valid = refl; permissions = refl; dirty = refl; touched = refl; stored = refl }
all_bits (suc (suc (suc zero))) false false small = record { small = lit< tt; valid = refl; permissions = refl; dirty = refl; touched = refl; stored = refl }
all_bits (suc (suc (suc (suc zero)))) true true small = record { small = lit< tt; valid = refl; permissions = refl; dirty = refl; touched = refl; stored = refl }
all_bits (suc (suc (suc (suc zero)))) true false small = record { small = lit< tt; valid = refl; permissions = refl; dirty = refl; touched = refl; stored = refl }
all_bits (suc (suc (suc (suc zero)))) false true small = record { small = lit< tt; valid = refl; permissions = refl; dirty = refl; touched = refl; stored = refl }
all_bits (suc (suc (suc (suc zero)))) false false small = record { small = lit< tt; valid = refl; permissions = refl; dirty = refl; touched = refl; stored = refl }
all_bits (suc (suc (suc (suc (suc zero))))) true true small = record { small = lit< tt; valid = refl; permissions = refl; dirty = refl; touched = refl; stored = refl }
all_bits (suc (suc (suc (suc (suc zero))))) true false small = record { small = lit< tt; valid = refl; permissions = refl; dirty = refl; touched = refl; stored = refl }
all_bits (suc (suc (suc (suc (suc zero))))) false true small = record { small = lit< tt; valid = refl; permissions = refl; dirty = refl; touched = refl; stored = refl }
all_bits (suc (suc (suc (suc (suc zero))))) false false small = record { small = lit< tt; valid = refl; permissions = refl; dirty = refl; touched = refl; stored = refl }
all_bits (suc (suc (suc (suc (suc (suc zero)))))) true true small = record { small = lit< tt; valid = refl; permissions = refl; dirty = refl; touched = refl; stored = refl }
all_bits (suc (suc (suc (suc (suc (suc zero)))))) true false small = record { small = lit< tt; valid = refl; permissions = refl; dirty = refl; touched = refl; stored = refl }
all_bits (suc (suc (suc (suc (suc (suc zero)))))) false true small = record { small = lit< tt; valid = refl; permissions = refl; dirty = refl; touched = refl; stored = refl }
all_bits (suc (suc (suc (suc (suc (suc zero)))))) false false small = record { small = lit< tt; valid = refl; permissions = refl; dirty = refl; touched = refl; stored = refl }
all_bits (suc (suc (suc (suc (suc (suc (suc zero))))))) true true small = record { small = lit< tt; valid = refl; permissions = refl; dirty = refl; touched = refl; stored = refl }
all_bits (suc (suc (suc (suc (suc (suc (suc zero))))))) true false small = record { small = lit< tt; valid = refl; permissions = refl; dirty = refl; touched = refl; stored = refl }
all_bits (suc (suc (suc (suc (suc (suc (suc zero))))))) false true small = record { small = lit< tt; valid = refl; permissions = refl; dirty = refl; touched = refl; stored = refl }
all_bits (suc (suc (suc (suc (suc (suc (suc zero))))))) false false small = record { small = lit< tt; valid = refl; permissions = refl; dirty = refl; touched = refl; stored = refl }
all_bits (suc (suc (suc (suc (suc (suc (suc (suc bits)))))))) accessed dirty small = absurd (omega arith)

-- the permissions of a mapped page are numbers of three bits
pub permission_small : (bits : ℕ) → IsTrue (is_page_permission bits) → bits < 8
permission_small bits is =
    elim (cases_lt bits 8) [
      | inl less ↦ less
      | inr more ↦ absurd (false≢true (rw (ne_eqb bits 0 (λ e. omega (arith, e)), ne_eqb bits 1 (λ e. omega (arith, e)), ne_eqb bits 4 (λ e. omega (arith, e)), ne_eqb bits 5 (λ e. omega (arith, e)), ne_eqb bits 6 (λ e. omega (arith, e))) at is))
    ]

-- the parts of an entry
frame_part : (frame low : ℕ) → low < 1024 → frame_in (1024 * frame + low) ≡ frame
frame_part frame low small = omega arith

bits_part : (frame low : ℕ) → low < 1024 → bits_in (1024 * frame + low) ≡ low
bits_part frame low small = omega arith

pub is_pointer-pointer : (frame : ℕ) → is_pointer (pointer frame) ≡ true
is_pointer-pointer frame = let one : 1 < 1024 = lit< tt in rw (bits_part frame 1 one) refl

pub frame_in-pointer : (frame : ℕ) → frame_in (pointer frame) ≡ frame
frame_in-pointer frame = frame_part frame 1 (lit< tt)

-- the entry of a mapped page
not_away : (frame low : ℕ) → low < 256 → eqb (1024 * frame + low) 256 ≡ false
not_away frame low small = ne_eqb (1024 * frame + low) 256 (λ same. omega (arith, same))

pub leaf_answer-entry : (bits : ℕ) (want : Want) (place : Place) → bits < 8 → leaf_answer want (page_entry bits place) ≡ found_at bits want place
leaf_answer-entry bits want Away small = refl
leaf_answer-entry bits want (Present frame a d) small =
    let say = all_bits bits a d small in
    let low : page_bits bits a d < 1024 = omega (arith, say.small) in
    rw (not_away frame (page_bits bits a d) say.small, bits_part frame (page_bits bits a d) low, frame_part frame (page_bits bits a d) low, say.valid, say.permissions, say.dirty) refl

-- the entry once it is touched
touched_bits : (bits : ℕ) (a d : Bool) (want : Want) → bits < 8 → bit_or (page_bits bits a d) (if is_store want then 192 else 64) ≡ page_bits bits true (d || is_store want)
touched_bits bits a true Fetch small = (all_bits bits a true small).touched
touched_bits bits a false Fetch small = (all_bits bits a false small).touched
touched_bits bits a true Load small = (all_bits bits a true small).touched
touched_bits bits a false Load small = (all_bits bits a false small).touched
touched_bits bits a true Store small = (all_bits bits a true small).stored
touched_bits bits a false Store small = (all_bits bits a false small).stored

pub leaf_touched-entry : (bits frame : ℕ) (a d : Bool) (want : Want) → bits < 8 → leaf_touched want (1024 * frame + page_bits bits a d) ≡ 1024 * frame + page_bits bits true (d || is_store want)
leaf_touched-entry bits frame a d want small =
    let say = all_bits bits a d small in
    let low : page_bits bits a d < 1024 = omega (arith, say.small) in
    rw (bits_part frame (page_bits bits a d) low, frame_part frame (page_bits bits a d) low, touched_bits bits a d want small) refl

-- what is written to the entry of a page: the entry of its touched place, where that differs
abbrev pub Writes : (bits : ℕ) → Want → Place → Option ℕ → Type 0
Writes bits want place written =
    (written ≡ Some (page_entry bits (touched bits want place))) ⊎ ((written ≡ None) × (page_entry bits (touched bits want place) ≡ page_entry bits place))

pub leaf_written-entry : (bits : ℕ) (want : Want) (place : Place) → bits < 8 → Writes bits want place (leaf_written want (page_entry bits place))
leaf_written-entry bits want Away small = inr (refl, refl)
leaf_written-entry bits want (Present frame a d) small =
    let say = all_bits bits a d small in
    let low : page_bits bits a d < 1024 = omega (arith, say.small) in
    let value : ℕ = 1024 * frame + page_bits bits a d in
    let new : leaf_touched want value ≡ 1024 * frame + page_bits bits true (d || is_store want) = leaf_touched-entry bits frame a d want small in
    elim (cases_Bool (grants bits want)) [
      | inr fails ↦
          rw (not_away frame (page_bits bits a d) say.small, bits_part frame (page_bits bits a d) low, say.valid, say.permissions, fails) (inr (refl, refl))
      | inl granted ↦ elim (cases_Bool (eqb (leaf_touched want value) value)) [
        | inl same ↦
            let is : 1024 * frame + page_bits bits true (d || is_store want) ≡ value = sym new ∙ eqb-true (leaf_touched want value) value same in
            let none : leaf_written want value ≡ None =
            rw (not_away frame (page_bits bits a d) say.small, same, bits_part frame (page_bits bits a d) low, say.valid, say.permissions, granted) refl in
            rw granted (inr (none, is))
        | inr differs ↦
            let some : leaf_written want value ≡ Some (leaf_touched want value) =
            rw (not_away frame (page_bits bits a d) say.small, differs, bits_part frame (page_bits bits a d) low, say.valid, say.permissions, granted) refl in
            rw granted (inl (some ∙ ap Some new))
      ]
    ]

-- the same of a place that agrees with what a walk has seen
touched-granted : (bits : ℕ) (want : Want) (frame : ℕ) (a d : Bool) → grants bits want ≡ true → touched bits want (Present frame a d) ≡ Present frame true (d || is_store want)
touched-granted bits want frame a d granted = rw granted refl

set_before : (bits frame : ℕ) (a d s : Bool) → 1024 * frame + page_bits bits true (d || s) ≡ 1024 * frame + page_bits bits a d → a ≡ true
set_before bits frame true d s is = refl
set_before bits frame false true s is = absurd (omega (arith, is))
set_before bits frame false false true is = absurd (omega (arith, is))
set_before bits frame false false false is = absurd (omega (arith, is))

pub leaf_written-late : (bits : ℕ) (want : Want) (seen now : Place) → bits < 8 → PlacesAgree bits want seen now → Writes bits want now (leaf_written want (page_entry bits seen))
leaf_written-late bits want Away Away small agree = inr (refl, refl)
leaf_written-late bits want Away (Present g b e) small agree = absurd agree
leaf_written-late bits want (Present f a d) Away small agree = absurd agree
leaf_written-late bits want (Present f a d) (Present g b e) small agree =
    elim (cases_Bool (grants bits want)) [
      | inr fails ↦
          let say = all_bits bits a d small in
          let low : page_bits bits a d < 1024 = omega (arith, say.small) in
          rw (not_away f (page_bits bits a d) say.small, bits_part f (page_bits bits a d) low, say.valid, say.permissions, fails) (inr (refl, refl))
      | inl granted ↦
          let same_frame : g ≡ f = agree.0 in
          let same_dirty : e ≡ d = agree.1.1 granted in
          let then_is : touched bits want (Present f a d) ≡ Present f true (d || is_store want) = touched-granted bits want f a d granted in
          let now_is : touched bits want (Present g b e) ≡ Present f true (d || is_store want) =
          touched-granted bits want g b e granted ∙ rw (same_frame, same_dirty) refl in
          elim (leaf_written-entry bits want (Present f a d) small) [
            | inl some ↦ inl (some ∙ ap (λ (place : Place). Some (page_entry bits place)) (then_is ∙ sym now_is))
            | inr stays ↦
                let is : page_entry bits (Present f true (d || is_store want)) ≡ page_entry bits (Present f a d) = ap (page_entry bits) (sym then_is) ∙ stays.1 in
                let set : a ≡ true = set_before bits f a d (is_store want) is in
                let set_now : b ≡ true = agree.1.0 set in
                let same : Present f a d ≡ Present g b e = rw (set, set_now, same_frame, same_dirty) refl in
                inr (stays.0, ap (page_entry bits) now_is ∙ is ∙ ap (page_entry bits) same)
          ]
    ]

-- an entry of a frame below 2 ^ 14 is small
pub page_entry-frame : (bits frames : ℕ) (place : Place) → bits < 8 → frames ≤ 16384 → IsBelow frames place → page_entry bits place < 16778240
page_entry-frame bits frames Away small few is = lit< tt
page_entry-frame bits frames (Present frame a d) small few is = omega (arith, (all_bits bits a d small).small)
