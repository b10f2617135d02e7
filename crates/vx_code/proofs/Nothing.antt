-- No faults in two parts.
use Rattle.std.proofs.Common.{◌≡◌, Bool, true, false, cond, List, [], ◌∷◌, ◌++◌, refl}

pub no-parts : {X : Type 0} (xs ys : List X) → xs ++ ys ≡ [] → (xs ≡ []) × (ys ≡ [])
no-parts [] ys e = (refl, e)
no-parts (x ∷ xs) ys e = cc

-- a fault that isn't there
pub no-fault : {X : Type 0} (b : Bool) (x : X) → cond b [] (x ∷ []) ≡ [] → b ≡ true
no-fault true x e = refl
no-fault false x e = cc

pub no-fault-there : {X : Type 0} (b : Bool) (x : X) → cond b (x ∷ []) [] ≡ [] → b ≡ false
no-fault-there true x e = cc
no-fault-there false x e = refl
