-- What keeps a type: a wider world, a number that is named nowhere, what a rule puts in the place of its redex.
use Prim.Native.Nat.{◌-◌, ℕ, ◌+◌, ◌%◌}
use mathlib.Core.Bool.{Bool, true, false, cond}
use mathlib.Core.List.{[], ◌++◌, ◌∷◌}
use mathlib.Core.Option.{some}
use mathlib.Core.Path.{◌∙◌, sym, ◌≡◌}
use lib.Dec.{eqb}
use lib.Signed.{lt_z}
use Rattle.calculus.specs.Types.{ScriptType}
use Rattle.calculus.specs.Expressions.{Expression, Arithmetic, add, subtract, less, bool, revision}
use Rattle.calculus.specs.Formed.{member}
use Rattle.calculus.specs.Numbers.{choose, calculated, signed}
use Rattle.calculus.specs.Substitution.{substituted}
use Rattle.calculus.specs.Redexes.{Lambda, expression_at, applying, choosing, calculating}
use Rattle.calculus.specs.Places.{plug, Context, only, first_of, second_of, condition}
use Rattle.calculus.specs.NewNumbers.{named}
use Rattle.calculus.specs.Typing.{World, HasType, nothing, type_of, apply_rule, lambda_rule, Assignment, if_rule}
use Rattle.calculus.specs.Typing.{arithmetic_rule, number_rule, constant_rule, variable_rule, location_rule}
use Rattle.calculus.specs.Typing.{revision_rule, ref_rule, read_rule, assign_rule, fork_rule, join_rule}
use Rattle.calculus.proofs.Options.{none≢some, eqb_other}
use Rattle.calculus.proofs.TypingRules.{type_of_rules, rules_type_of}
use Rattle.calculus.proofs.TypingLaws.{SubW, mono, plug_inv, plug_typ, subst_typ}
use Rattle.calculus.proofs.Taken.{absent_cons, absent_append}

-- a world that types what another one does, and that alike
pub same_world : (W : World) → SubW W W
same_world W = record { cells = λ n A h. h; tasks = λ n h. h }

pub weaken : {U W : World} {e : Expression} {A : ScriptType} → SubW U W → HasType U nothing e A → HasType W nothing e A
weaken {U} {W} {e} {A} w d = type_of_rules W nothing e A (mono w (λ n B h. h) e A (rules_type_of d))

-- what stands in a typed context is typed, and may be replaced by what has its type
pub plugged : {W : World} {A : ScriptType} (E : Context) (e : Expression) → HasType W nothing (plug E e) A
    → (B : ScriptType) × HasType W nothing e B
plugged {W} {A} E e d =
    let (B, p) = plug_inv W E e (A, rules_type_of d) in (B, type_of_rules W nothing e B p)

pub replace : {U W : World} {A : ScriptType} (E : Context) (old new : Expression) → SubW U W
    → ((B : ScriptType) → HasType U nothing old B → HasType W nothing new B)
    → HasType U nothing (plug E old) A → HasType W nothing (plug E new) A
replace {U} {W} {A} E old new w f d =
    let (B, p) = plugged E old d in
    let alike = rules_type_of (f B p) ∙ sym (rules_type_of (weaken w p)) in
    type_of_rules W nothing (plug E new) A (plug_typ W nothing E new old alike ∙ rules_type_of (weaken w d))

-- the rules that touch no store
pub apply_keeps_type : {W : World} {B : ScriptType} (f : Lambda) (v : Expression)
    → HasType W nothing (expression_at (applying f v)) B
    → HasType W nothing (substituted f.variable v f.body) B
apply_keeps_type {W} {B} f v (apply_rule (lambda_rule d) e) =
    let A = f.type in
    let anywhere : (Δ : Assignment) → type_of W Δ v ≡ some A
    = λ Δ. mono (same_world W) (λ n C h. none≢some h) v A (rules_type_of e) in
    type_of_rules W nothing (substituted f.variable v f.body) B
    (subst_typ W f.variable v A anywhere f.body nothing ∙ rules_type_of d)

pub if_keeps_type : {W : World} {A : ScriptType} (t : Bool) (b c : Expression)
    → HasType W nothing (expression_at (choosing t b c)) A → HasType W nothing (choose t b c) A
if_keeps_type true b c (if_rule d e f) = e
if_keeps_type false b c (if_rule d e f) = f

pub arithmetic_keeps_type : {W : World} {A : ScriptType} (o : Arithmetic) (m n : ℕ)
    → HasType W nothing (expression_at (calculating o m n)) A → HasType W nothing (calculated o m n) A
arithmetic_keeps_type add m n (arithmetic_rule o d e) = number_rule ((m + n) % 65536)
arithmetic_keeps_type subtract m n (arithmetic_rule o d e) = number_rule ((m + (65536 - n)) % 65536)
arithmetic_keeps_type less m n (arithmetic_rule o d e) = constant_rule (bool (lt_z (signed m) (signed n)))

-- a function changed at one number
abbrev pub update : {B : Type 0} → ℕ → B → (ℕ → B) → ℕ → B
update k b f n = cond (eqb n k) b (f n)

-- a number that an expression does not name need not be allowed
abbrev pub forbid : ℕ → World → World
forbid r W = record { cells = W.cells; tasks = update r false W.tasks }

pub unnamed_forbidden : {W : World} {Γ : Assignment} {e : Expression} {A : ScriptType} (r : ℕ)
    → member r (named revision e) ≡ false → HasType W Γ e A → HasType (forbid r W) Γ e A
unfolding named
unnamed_forbidden r m (constant_rule c) = constant_rule c
unnamed_forbidden r m (number_rule n) = number_rule n
unnamed_forbidden r m (variable_rule h) = variable_rule h
unnamed_forbidden r m (location_rule h) = location_rule h
unnamed_forbidden r m (revision_rule {r = q} h) =
    revision_rule {r = q} (rw (eqb_other q r (λ e. (absent_cons r q [] m).0 (sym e))) h)
unnamed_forbidden r m (lambda_rule d) = lambda_rule (unnamed_forbidden r m d)
unnamed_forbidden r m (apply_rule {f = f} {a = a} d e) =
    let (x, y) = absent_append r (named revision f) (named revision a) m in
    apply_rule (unnamed_forbidden r x d) (unnamed_forbidden r y e)
unnamed_forbidden r m (if_rule {a = a} {b = b} {c = c} d e f) =
    let (x, yz) = absent_append r (named revision a) (named revision b ++ named revision c) m in
    let (y, z) = absent_append r (named revision b) (named revision c) yz in
    if_rule (unnamed_forbidden r x d) (unnamed_forbidden r y e) (unnamed_forbidden r z f)
unnamed_forbidden r m (ref_rule d) = ref_rule (unnamed_forbidden r m d)
unnamed_forbidden r m (read_rule d) = read_rule (unnamed_forbidden r m d)
unnamed_forbidden r m (assign_rule {a = a} {b = b} d e) =
    let (x, y) = absent_append r (named revision a) (named revision b) m in
    assign_rule (unnamed_forbidden r x d) (unnamed_forbidden r y e)
unnamed_forbidden r m (fork_rule d) = fork_rule (unnamed_forbidden r m d)
unnamed_forbidden r m (join_rule d) = join_rule (unnamed_forbidden r m d)
unnamed_forbidden r m (arithmetic_rule o {a = a} {b = b} d e) =
    let (x, y) = absent_append r (named revision a) (named revision b) m in
    arithmetic_rule o (unnamed_forbidden r x d) (unnamed_forbidden r y e)

-- and what stands in a context names only what the whole names
pub unnamed_inside : (r : ℕ) (E : Context) (e : Expression) → member r (named revision (plug E e)) ≡ false
    → member r (named revision e) ≡ false
unfolding named
unnamed_inside r [] e h = h
unnamed_inside r (only o ∷ E) e h = unnamed_inside r E e h
unnamed_inside r (first_of o b ∷ E) e h =
    unnamed_inside r E e (absent_append r (named revision (plug E e)) (named revision b) h).0
unnamed_inside r (second_of o a ∷ E) e h =
    unnamed_inside r E e (absent_append r (named revision a) (named revision (plug E e)) h).1
unnamed_inside r (condition b c ∷ E) e h =
    unnamed_inside r E e (absent_append r (named revision (plug E e)) (named revision b ++ named revision c) h).0
