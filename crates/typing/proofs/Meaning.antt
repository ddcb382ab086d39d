-- What a position stands for: the frame, and the head of a type.
use Prim.Native.Nat.{◌-◌, ℕ, ◌≤◌, ◌<◌, ◌+◌}
use mathlib.Core.List.{List, ◌++◌, append_assoc, [], append-nil}
use mathlib.Core.Option.{some, none}
use mathlib.Core.Logic.{◌⊎◌, inl, inr}
use mathlib.Core.Path.{◌≡◌, ◌∙◌, ap, refl, sym, subst}
use native.Mathlib.Omega.{arith}
use lib.ListN.{get_or, length, drop, get_or-eq_default, take, length-drop}
use lib.Seq.{take_all}
use Rattle.std.specs.Prelude.{Option, Some, None}
use Rattle.typing.specs.declared.types.Head.{Head}
use Rattle.typing.specs.declared.types.Head.TheVariants.{Unit as UnitHead, Bool as BoolHead, Number, Rev, Reference}
use Rattle.typing.specs.declared.types.Head.TheVariants.{Function}
use Rattle.words.specs.declared.tags.Tag.{Tag}
use Rattle.words.specs.declared.tags.Tag.TheVariants.{Unit as UnitNode, False, True, Number as NumberNode, Variable}
use Rattle.words.specs.declared.tags.Tag.TheVariants.{Location, Revision, Lambda, Apply, If, Ref, Read, Assign, Fork}
use Rattle.words.specs.declared.tags.Tag.TheVariants.{Join, Add, Subtract, Less}
use Rattle.words.specs.declared.tags.TypeTag.{TypeTag}
use Rattle.words.specs.declared.tags.TypeTag.TheVariants.{Unit as UnitTag, Bool as BoolTag, Number as NumberTag}
use Rattle.words.specs.declared.tags.TypeTag.TheVariants.{Rev as RevTag, Reference as ReferenceTag}
use Rattle.words.specs.declared.tags.TypeTag.TheVariants.{Function as FunctionTag}
use Rattle.words.specs.Tags.{word_of, type_word_of}
use Rattle.calculus.specs.Reading.{type_end}
use Rattle.calculus.specs.Tags.{type_tag_word, basic_tag}
use Rattle.calculus.specs.Types.{ScriptType, basic, reference, function, Basic, unit_type, bool_type, num_type, rev_type}
use Rattle.calculus.specs.Words.{type_words}
use Rattle.words.specs.Walks.{walk_of}
use Rattle.typing.specs.Held.{Annotated, Means, Written, HeadAt, HeadIs, HeadIn, basic_of, Headed, basics}
use Rattle.typing.specs.Held.{basic_head, head_if}
use Rattle.typing.specs.Held.{Named}
use Rattle.calculus.proofs.Options.{none≢some}
use Rattle.typing.proofs.Equality.{basic_inj}
use Rattle.typing.proofs.TagWords.{same_tag, word_below}
use Rattle.typing.proofs.Ends.{basic_32, basic_36, ends_of, ends_nowhere}
use Rattle.typing.proofs.Fronts.{front, past}

-- a change elsewhere changes no type, and a wider range serves
frame_annotated : (s t t' : List ℕ) (i j i' j' : ℕ) → i' ≤ i → j ≤ j'
    → ((k : ℕ) → i ≤ k → k < j → get_or t' k 0 ≡ get_or t k 0)
    → (p : ℕ) (A : ScriptType) → Annotated s t i j p A → Annotated s t' i' j' p A
frame_annotated s t t' i j i' j' a b f p A (inl w) = inl w
frame_annotated s t t' i j i' j' a b f p A (inr m) =
    inr (m.0, omega arith, omega arith, rw (f p m.1 m.2) m.3)

pub frame : (s t t' : List ℕ) (i j i' j' : ℕ) → i' ≤ i → j ≤ j'
    → ((k : ℕ) → i ≤ k → k < j → get_or t' k 0 ≡ get_or t k 0)
    → (p : ℕ) (A : ScriptType) → Means s t i j p A → Means s t' i' j' p A
unfolding Means
frame s t t' i j i' j' a b f p (basic x) (inl m) = inl (frame_annotated s t t' i j i' j' a b f p (basic x) m)
frame s t t' i j i' j' a b f p (basic x) (inr m) = inr m
frame s t t' i j i' j' a b f p (reference A) (inl m) = inl (frame_annotated s t t' i j i' j' a b f p (reference A) m)
frame s t t' i j i' j' a b f p (reference A) (inr m) =
    inr (m.0, omega arith, omega arith, rw (f p m.1 m.2) (frame s t t' i j i' j' a b f (get_or t p 0) A m.3))
frame s t t' i j i' j' a b f p (function A B) (inl m) =
    inl (frame_annotated s t t' i j i' j' a b f p (function A B) m)
frame s t t' i j i' j' a b f p (function A B) (inr m) =
    inr
    (m.0, omega arith, omega arith, m.3, rw (f p m.1 m.2) (frame s t t' i j i' j' a b f (get_or t p 0) B m.4))

-- an annotation stands for itself
pub annotated : (s t : List ℕ) (i j p : ℕ) (A : ScriptType) → Annotated s t i j p A → Means s t i j p A
unfolding Means
annotated s t i j p (basic b) m = inl m
annotated s t i j p (reference A) m = inl m
annotated s t i j p (function A B) m = inl m

pub written : (s t : List ℕ) (i j p : ℕ) (A : ScriptType) → Written s p A → Means s t i j p A
written s t i j p A w = annotated s t i j p A (inl w)

-- a reference's and a function's parts
reference_part : (s : List ℕ) (p : ℕ) (A : ScriptType) → Written s p (reference A) → Written s (p + 1) A
unfolding type_words
reference_part s p A w = record { rest = w.rest; is = (front s p _ _ w.is).next }

function_parts : (s : List ℕ) (p : ℕ) (A B : ScriptType) → Written s p (function A B)
    → Written s (p + 1) A × Written s (p + 1 + length (type_words A)) B
unfolding type_words
function_parts s p A B w =
    let f = front s p _ _ w.is in
    let d : drop (p + 1) s ≡ type_words A ++ (type_words B ++ w.rest) =
    f.next ∙ append_assoc (type_words A) (type_words B) w.rest
    in (
      record { rest = type_words B ++ w.rest; is = d },
      record { rest = w.rest; is = past s (p + 1) (type_words A) _ d },
    )

-- the first word of a type
written_word : (s : List ℕ) (p : ℕ) (A : ScriptType) → Written s p A → 32 ≤ get_or s p 0
unfolding type_words
written_word s p (basic b) w = rw (front s p _ _ w.is).tag (basic_32 b)
written_word s p (reference A) w = rw (front s p _ _ w.is).tag (omega arith)
written_word s p (function A B) w = rw (front s p _ _ w.is).tag (omega arith)

-- the head of a written type
head_written_is : (s t : List ℕ) (i j p : ℕ) (A : ScriptType) (h : Option Head) → Written s p A → HeadAt p A h
    → HeadIs s t i j A h
unfolding HeadAt HeadIs
head_written_is s t i j p (basic b) h w k = k
head_written_is s t i j p (reference A) h w k =
    (p + 1, k, written s t i j (p + 1) A (reference_part s p A w))
head_written_is s t i j p (function A B) h w k =
    let (a, b) = function_parts s p A B w in
    (p + 1, p + 1 + length (type_words A), k, a, written s t i j (p + 1 + length (type_words A)) B b)

-- a head, read from the words of the type
module _ (ws : List ℕ) (p w : ℕ) (e : w ≡ get_or ws 0 0) where
  reference_in : w ≡ 36 → HeadIn ws p (Some (Reference (p + 1)))
  unfolding HeadAt type_words
  reference_in h = record { is = go }
    where
      go : (A : ScriptType) → Written ws 0 A → HeadAt p A (Some (Reference (p + 1)))
      go (basic b) v = absurd (let z = basic_36 b in omega (arith, (front ws 0 _ _ v.is).tag))
      go (reference A) v = refl
      go (function A B) v = absurd (omega (arith, (front ws 0 _ _ v.is).tag))

  function_in : (d : ℕ) → w ≡ 37 → Some d ≡ walk_of (type_end ws 1)
      → HeadIn ws p (Some (Function (p + 1) (p + d)))
  unfolding HeadAt type_words
  function_in d h q = record { is = go }
    where
      go : (A : ScriptType) → Written ws 0 A → HeadAt p A (Some (Function (p + 1) (p + d)))
      go (basic b) v = absurd (let z = basic_36 b in omega (arith, (front ws 0 _ _ v.is).tag))
      go (reference A) v = absurd (omega (arith, (front ws 0 _ _ v.is).tag))
      go (function A B) v =
          let (a, b) = function_parts ws 0 A B v in
          let z : d ≡ 1 + length (type_words A) = ends_of ws 1 d q A a in
          ap (λ (n : ℕ). Some (Function (p + 1) n)) (omega arith)

  broken_in : (r : Option Head) → w ≡ 37 → None ≡ walk_of (type_end ws 1) → HeadIn ws p r
  unfolding HeadAt type_words
  broken_in r h q = record { is = go }
    where
      go : (A : ScriptType) → Written ws 0 A → HeadAt p A r
      go (basic c) v = absurd (let z = basic_36 c in omega (arith, (front ws 0 _ _ v.is).tag))
      go (reference A) v = absurd (omega (arith, (front ws 0 _ _ v.is).tag))
      go (function A B) v = absurd (ends_nowhere ws 1 q A (function_parts ws 0 A B v).0)

  basic_in : (b : Basic) → w ≡ type_tag_word (basic_tag b) → HeadIn ws p (Some (basic_head b))
  unfolding HeadAt type_words
  basic_in b h = record { is = go }
    where
      go : (A : ScriptType) → Written ws 0 A → HeadAt p A (Some (basic_head b))
      go (basic c) v = ap (λ (x : Basic). Some (basic_head x)) (basic_inj b c (sym h ∙ e ∙ (front ws 0 _ _ v.is).tag))
      go (reference A) v = absurd (let z = basic_36 b in omega (arith, (front ws 0 _ _ v.is).tag))
      go (function A B) v = absurd (let z = basic_36 b in omega (arith, (front ws 0 _ _ v.is).tag))

  pub in_nothing : (w < 32) ⊎ (38 ≤ w) → (r : Option Head) → HeadIn ws p r
  unfolding HeadAt type_words
  in_nothing h r = record { is = λ A v. absurd (go A v h) }
    where
      go : (A : ScriptType) → Written ws 0 A → (w < 32) ⊎ (38 ≤ w) → ⊥
      go A v (inl k) = omega (arith, written_word ws 0 A v)
      go (basic c) v (inr k) = let z = basic_36 c in omega (arith, (front ws 0 _ _ v.is).tag)
      go (reference A) v (inr k) = omega (arith, (front ws 0 _ _ v.is).tag)
      go (function A B) v (inr k) = omega (arith, (front ws 0 _ _ v.is).tag)

  -- by the type's tag
  module _ (g : TypeTag) (q : type_word_of g ≡ w) where
    word : (h : TypeTag) → g ≡ h → w ≡ type_word_of h
    word h z = sym q ∙ ap type_word_of z

    pub in_unit : g ≡ UnitTag → HeadIn ws p (Some UnitHead)
    in_unit z = basic_in unit_type (word UnitTag z)

    pub in_bool : g ≡ BoolTag → HeadIn ws p (Some BoolHead)
    in_bool z = basic_in bool_type (word BoolTag z)

    pub in_number : g ≡ NumberTag → HeadIn ws p (Some Number)
    in_number z = basic_in num_type (word NumberTag z)

    pub in_rev : g ≡ RevTag → HeadIn ws p (Some Rev)
    in_rev z = basic_in rev_type (word RevTag z)

    pub in_reference : g ≡ ReferenceTag → HeadIn ws p (Some (Reference (p + 1)))
    in_reference z = reference_in (word ReferenceTag z)

    pub in_function : (d : ℕ) → g ≡ FunctionTag → Some d ≡ walk_of (type_end ws 1)
        → HeadIn ws p (Some (Function (p + 1) (p + d)))
    in_function d z = function_in d (word FunctionTag z)

    pub in_broken : (r : Option Head) → g ≡ FunctionTag → None ≡ walk_of (type_end ws 1) → HeadIn ws p r
    in_broken r z = broken_in r (word FunctionTag z)

-- one law for each first word of a type
pub ruleset first_words = (in_unit, in_bool, in_number, in_rev, in_reference, in_function, in_broken, in_nothing)

-- the basic type of a node, by its tag
pub unit_tags : (g : Tag) → (g ≡ UnitNode) ⊎ ((g ≡ Assign) ⊎ (g ≡ Join)) → Some UnitHead ≡ head_if (basic_of (word_of g))
unfolding basic_of
unit_tags g (inl e) = rw e refl
unit_tags g (inr (inl e)) = rw e refl
unit_tags g (inr (inr e)) = rw e refl

pub bool_tags : (g : Tag) → (g ≡ False) ⊎ ((g ≡ True) ⊎ (g ≡ Less)) → Some BoolHead ≡ head_if (basic_of (word_of g))
unfolding basic_of
bool_tags g (inl e) = rw e refl
bool_tags g (inr (inl e)) = rw e refl
bool_tags g (inr (inr e)) = rw e refl

pub number_tags : (g : Tag) → (g ≡ NumberNode) ⊎ ((g ≡ Add) ⊎ (g ≡ Subtract))
    → Some Number ≡ head_if (basic_of (word_of g))
unfolding basic_of
number_tags g (inl e) = rw e refl
number_tags g (inr (inl e)) = rw e refl
number_tags g (inr (inr e)) = rw e refl

pub rev_tag : (g : Tag) → g ≡ Fork → Some Rev ≡ head_if (basic_of (word_of g))
unfolding basic_of
rev_tag g e = rw e refl

pub other_tags : (g : Tag) → (g ≡ UnitNode → ⊥) → (g ≡ False → ⊥) → (g ≡ True → ⊥) → (g ≡ NumberNode → ⊥)
    → (g ≡ Assign → ⊥) → (g ≡ Fork → ⊥) → (g ≡ Join → ⊥) → (g ≡ Add → ⊥) → (g ≡ Subtract → ⊥) → (g ≡ Less → ⊥)
    → None ≡ head_if (basic_of (word_of g))
unfolding basic_of
other_tags UnitNode a b c d e f h i j k = absurd (a refl)
other_tags False a b c d e f h i j k = absurd (b refl)
other_tags True a b c d e f h i j k = absurd (c refl)
other_tags NumberNode a b c d e f h i j k = absurd (d refl)
other_tags Variable a b c d e f h i j k = refl
other_tags Location a b c d e f h i j k = refl
other_tags Revision a b c d e f h i j k = refl
other_tags Lambda a b c d e f h i j k = refl
other_tags Apply a b c d e f h i j k = refl
other_tags If a b c d e f h i j k = refl
other_tags Ref a b c d e f h i j k = refl
other_tags Read a b c d e f h i j k = refl
other_tags Assign a b c d e f h i j k = absurd (e refl)
other_tags Fork a b c d e f h i j k = absurd (f refl)
other_tags Join a b c d e f h i j k = absurd (h refl)
other_tags Add a b c d e f h i j k = absurd (i refl)
other_tags Subtract a b c d e f h i j k = absurd (j refl)
other_tags Less a b c d e f h i j k = absurd (k refl)

pub ruleset basic_tags = (unit_tags, bool_tags, number_tags, rev_tag, other_tags)

-- a head, by the tag
module _ (s t : List ℕ) (p w : ℕ) (e : w ≡ get_or s p 0) where
  not_annotated : (i j : ℕ) (A : ScriptType) → w < 32 → (w ≡ 4 → ⊥) → Annotated s t i j p A → ⊥
  not_annotated i j A h k (inl m) = omega (arith, written_word s p A m)
  not_annotated i j A h k (inr m) = k (e ∙ m.0)

  no_basic : (b : Basic) → basic_of w ≡ none → basic_of (get_or s p 0) ≡ some b → ⊥
  no_basic b q z = none≢some (sym q ∙ ap basic_of e ∙ z)

  lambda_head : (n : ℕ) → w ≡ 7 → n ≡ get_or t p 0 → Headed s t p (Some (Function (p + 2) n))
  unfolding Means HeadIs basic_of
  lambda_head n h q = record { is = go }
    where
      not : (i j : ℕ) (A : ScriptType) → Annotated s t i j p A → ⊥
      not i j A = not_annotated i j A (omega arith) (λ z. omega arith)

      go : (i j : ℕ) (A : ScriptType) → Means s t i j p A → HeadIs s t i j A (Some (Function (p + 2) n))
      go i j (basic b) (inl m) = absurd (not i j _ m)
      go i j (basic b) (inr m) = absurd (no_basic b (rw h refl) m)
      go i j (reference A) (inl m) = absurd (not i j _ m)
      go i j (reference A) (inr m) = absurd (omega (arith, m.0))
      go i j (function A B) (inl m) = absurd (not i j _ m)
      go i j (function A B) (inr m) = (p + 2, n, refl, m.3, rw q m.4)

  ref_head : (n : ℕ) → w ≡ 10 → n ≡ get_or t p 0 → Headed s t p (Some (Reference n))
  unfolding Means HeadIs basic_of
  ref_head n h q = record { is = go }
    where
      not : (i j : ℕ) (A : ScriptType) → Annotated s t i j p A → ⊥
      not i j A = not_annotated i j A (omega arith) (λ z. omega arith)

      go : (i j : ℕ) (A : ScriptType) → Means s t i j p A → HeadIs s t i j A (Some (Reference n))
      go i j (basic b) (inl m) = absurd (not i j _ m)
      go i j (basic b) (inr m) = absurd (no_basic b (rw h refl) m)
      go i j (reference A) (inl m) = absurd (not i j _ m)
      go i j (reference A) (inr m) = (n, refl, rw q m.3)
      go i j (function A B) (inl m) = absurd (not i j _ m)
      go i j (function A B) (inr m) = absurd (omega (arith, m.0))

  basic_head_of : (h : Option Head) → w < 32 → (w ≡ 4 → ⊥) → (w ≡ 7 → ⊥) → (w ≡ 10 → ⊥) → h ≡ head_if (basic_of w)
      → Headed s t p h
  unfolding Means HeadIs
  basic_head_of h k a b c q = record { is = go }
    where
      go : (i j : ℕ) (A : ScriptType) → Means s t i j p A → HeadIs s t i j A h
      go i j (basic d) (inl m) = absurd (not_annotated i j _ k a m)
      go i j (basic d) (inr m) = q ∙ ap head_if (ap basic_of e ∙ m)
      go i j (reference A) (inl m) = absurd (not_annotated i j _ k a m)
      go i j (reference A) (inr m) = absurd (c (e ∙ m.0))
      go i j (function A B) (inl m) = absurd (not_annotated i j _ k a m)
      go i j (function A B) (inr m) = absurd (b (e ∙ m.0))

  high_basic : 18 ≤ w → basic_of w ≡ none
  unfolding basic_of
  high_basic h = get_or-eq_default basics none {n = w} (omega arith)

  head_type : (h : Option Head) → 18 ≤ w → HeadIn (drop p s) p h → Headed s t p h
  unfolding Means
  head_type h k u = record { is = go }
    where
      taken : (i j : ℕ) (A : ScriptType) → Annotated s t i j p A → HeadIs s t i j A h
      taken i j A (inl m) = head_written_is s t i j p A h m (u.is A (record { rest = m.rest; is = m.is }))
      taken i j A (inr m) = absurd (omega (arith, m.0))

      go : (i j : ℕ) (A : ScriptType) → Means s t i j p A → HeadIs s t i j A h
      go i j (basic b) (inl m) = taken i j _ m
      go i j (basic b) (inr m) = absurd (no_basic b (high_basic k) m)
      go i j (reference A) (inl m) = taken i j _ m
      go i j (reference A) (inr m) = absurd (omega (arith, m.0))
      go i j (function A B) (inl m) = taken i j _ m
      go i j (function A B) (inr m) = absurd (omega (arith, m.0))

  pub head_part : (h : Option Head) (part : List ℕ) → 18 ≤ w → part ≡ take (length s - p) (drop p s) → HeadIn part p h
      → Headed s t p h
  head_part h part k e u =
      head_type h k
      (subst (λ (l : List ℕ). HeadIn l p h) (e ∙ take_all (length s - p) (drop p s) (omega (arith, length-drop p s))) u)

  variable_head : (h : Option Head) (n : ℕ) (ws : List ℕ) → w ≡ 4 → n ≡ get_or t p 0 → Named s (get_or t p 0) ws
      → HeadIn ws n h → Headed s t p h
  unfolding Means basic_of
  variable_head h n ws k q v u = record { is = go }
    where
      taken : (i j : ℕ) (A : ScriptType) → Annotated s t i j p A → HeadIs s t i j A h
      taken i j A (inl m) = absurd (omega (arith, written_word s p A m))
      taken i j A (inr m) =
          let z : ws ≡ type_words A ++ [] = v.is A m.3 ∙ sym (append-nil (type_words A)) in
          head_written_is s t i j n A h (rw q m.3) (u.is A (record { rest = []; is = z }))

      go : (i j : ℕ) (A : ScriptType) → Means s t i j p A → HeadIs s t i j A h
      go i j (basic b) (inl m) = taken i j _ m
      go i j (basic b) (inr m) = absurd (no_basic b (rw k refl) m)
      go i j (reference A) (inl m) = taken i j _ m
      go i j (reference A) (inr m) = absurd (omega (arith, m.0))
      go i j (function A B) (inl m) = taken i j _ m
      go i j (function A B) (inr m) = absurd (omega (arith, m.0))

  module _ (g : Tag) (q : word_of g ≡ w) where
    pub head_lambda : (n : ℕ) → g ≡ Lambda → n ≡ get_or t p 0 → Headed s t p (Some (Function (p + 2) n))
    head_lambda n z = lambda_head n (sym q ∙ ap word_of z)

    pub head_ref : (n : ℕ) → g ≡ Ref → n ≡ get_or t p 0 → Headed s t p (Some (Reference n))
    head_ref n z = ref_head n (sym q ∙ ap word_of z)

    pub head_variable : (h : Option Head) (n : ℕ) (ws : List ℕ) → g ≡ Variable → n ≡ get_or t p 0 → Named s n ws
        → HeadIn ws n h → Headed s t p h
    head_variable h n ws z k v u =
        variable_head h n ws (sym q ∙ ap word_of z) k (subst (λ (m : ℕ). Named s m ws) k v) u

    pub head_basic : (h : Option Head) → (g ≡ Variable → ⊥) → (g ≡ Lambda → ⊥) → (g ≡ Ref → ⊥)
        → h ≡ head_if (basic_of (word_of g)) → Headed s t p h
    head_basic h a b c d =
        basic_head_of h (omega (arith, word_below g)) (λ z. a (same_tag g Variable (q ∙ z)))
        (λ z. b (same_tag g Lambda (q ∙ z))) (λ z. c (same_tag g Ref (q ∙ z))) (d ∙ ap (λ (n : ℕ). head_if (basic_of n)) q)
