-- Options and tests: the few laws that every file uses.
use Prim.Native.Nat.{ℕ}
use mathlib.Core.Bool.{true, Bool, false, ◌&&◌}
use mathlib.Core.Logic.{◌≢◌}
use mathlib.Core.Option.{Option, none, some}
use mathlib.Core.Path.{◌≡◌, refl, sym, ◌∙◌, ap}
use native.Mathlib.Omega.{arith}
use lib.Dec.{T, eqb, eqb_refl, eqb→eq}
use Rattle.calculus.specs.Options.{test, ◌▸◌}

pub none≢some : {A : Type 0} {a : A} {C : Type 0} → ◌≡◌ {A = Option A} none (some a) → C
none≢some e = absurd (let z : ◌≡◌ {A = ℕ} 0 1 = cc in omega arith)

pub some_inj : {A : Type 0} {a b : A} → ◌≡◌ {A = Option A} (some a) (some b) → a ≡ b
some_inj e = cc

-- what a bind that gives something went through
pub ▸-some : {A B : Type 0} (m : Option A) (f : A → Option B) {b : B} → (m ▸ f) ≡ some b
    → (a : A) × (m ≡ some a) × (f a ≡ some b)
▸-some none f e = none≢some e
▸-some (some a) f e = (a, refl, e)

pub test_true : (b : Bool) → T b → test b ≡ some tt
test_true true t = refl
test_true false t = absurd t

pub test_some : (b : Bool) {u : Unit {0}} → test b ≡ some u → T b
test_some true e = tt
test_some false e = none≢some e

pub T-fst : (a b : Bool) → T (a && b) → T a
T-fst true b t = tt
T-fst false b t = t

pub T-snd : (a b : Bool) → T (a && b) → T b
T-snd true b t = t
T-snd false b t = absurd t

pub T-both : (a b : Bool) → T a → T b → T (a && b)
T-both true b s t = t
T-both false b s t = s

pub T→true : (b : Bool) → T b → b ≡ true
T→true true t = refl
T→true false t = absurd t

pub eqb_same : (n : ℕ) → eqb n n ≡ true
eqb_same n = T→true (eqb n n) (eqb_refl n)

pub ¬T→false : (b : Bool) → (T b → ⊥) → b ≡ false
¬T→false true f = absurd (f tt)
¬T→false false f = refl

pub eqb_other : (m n : ℕ) → m ≢ n → eqb m n ≡ false
eqb_other m n h = ¬T→false (eqb m n) (λ t. h (eqb→eq m n t))

pub true→eq : (m n : ℕ) → eqb m n ≡ true → m ≡ n
true→eq m n e = eqb→eq m n (rw e tt)

pub false→ne : (m n : ℕ) → eqb m n ≡ false → m ≢ n
false→ne m n e p =
    let z : true ≡ false = sym (eqb_same m) ∙ ap (λ k. eqb m k) p ∙ e in
    absurd (let y : ◌≡◌ {A = ℕ} 0 1 = cc in omega arith)
