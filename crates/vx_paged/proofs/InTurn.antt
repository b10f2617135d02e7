-- Pages in successive frames.
use Rattle.std.proofs.Common.{◌≡◌, ℕ, zero, suc, ◌+◌, ◌<◌, ◌≤◌, List, [], ◌∷◌, ◌++◌, length, get_or, take, refl, sym, ap, subst, ◌∙◌, add-zero, arith}
use Rattle.vx_base.specs.Pages.{IsPageList}
use Rattle.vx_base.specs.declared.perm.PageEntry.{PageEntry}
use Rattle.vx_paged.specs.Framed.{IsPlacement, IsWithin, entries_of, in_turn}
use Rattle.vx_paged.specs.declared.placement.FramedPage.{FramedPage}

pub entries-in_turn : (first : ℕ) (pages : List PageEntry) → entries_of (in_turn first pages) ≡ pages
entries-in_turn first [] = refl
entries-in_turn first (e ∷ pages) = ap (λ (es : List PageEntry). e ∷ es) (entries-in_turn (first + 1) pages)

pub length-in_turn : (first : ℕ) (pages : List PageEntry) → length (in_turn first pages) ≡ length pages
length-in_turn first [] = refl
length-in_turn first (e ∷ pages) = ap suc (length-in_turn (first + 1) pages)

pub frame-in_turn : (first : ℕ) (pages : List PageEntry) (k : ℕ) (d : FramedPage) → k < length pages → (get_or (in_turn first pages) k d).frame ≡ first + k
frame-in_turn first [] k d below = absurd (omega arith)
frame-in_turn first (e ∷ pages) zero d below = sym (add-zero first)
frame-in_turn first (e ∷ pages) (suc k) d below =
    let there : first + 1 + k ≡ first + suc k = omega arith in
    frame-in_turn (first + 1) pages k d (omega arith) ∙ there

-- one page more
pub in_turn-more : (first : ℕ) (pages : List PageEntry) (i : ℕ) (d : PageEntry) (frame : ℕ) → i < length pages → frame ≡ first + i → in_turn first (take (i + 1) pages) ≡ in_turn first (take i pages) ++ (record { entry = get_or pages i d; frame = frame } ∷ [])
in_turn-more first [] i d frame below same = absurd (omega arith)
in_turn-more first (e ∷ pages) zero d frame below same =
    let here : first ≡ frame = omega arith in
    ap (λ (f : ℕ). record { entry = e; frame = f } ∷ []) here
in_turn-more first (e ∷ pages) (suc i) d frame below same =
    let up : suc i + 1 ≡ suc (i + 1) = omega arith in
    ap (λ (n : ℕ). in_turn first (take n (e ∷ pages))) up
    ∙ ap (λ (ps : List FramedPage). record { entry = e; frame = first } ∷ ps) (in_turn-more (first + 1) pages i d frame (omega arith) (omega arith))

pub IsPlacement-in_turn : (first : ℕ) (pages : List PageEntry) → IsPageList pages → first + length pages ≤ 16384 → IsPlacement (in_turn first pages)
IsPlacement-in_turn first pages listed few =
    let long = length-in_turn first pages in
    record {
      listed = subst IsPageList (sym (entries-in_turn first pages)) listed;
      apart = λ i j d less below same. omega (arith, long, frame-in_turn first pages i d (omega (arith, long)), frame-in_turn first pages j d (omega (arith, long)), same);
      limit = λ k d below. omega (arith, long, frame-in_turn first pages k d (omega (arith, long)));
    }

pub IsWithin-in_turn : (first : ℕ) (pages : List PageEntry) (frames : ℕ) → first + length pages ≤ frames → IsWithin frames (in_turn first pages)
IsWithin-in_turn first pages frames few k d below =
    let long = length-in_turn first pages in
    omega (arith, long, frame-in_turn first pages k d (omega (arith, long)))
