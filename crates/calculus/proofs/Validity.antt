-- A step from a valid state leads to a valid state, if that is short enough.
use Prim.Native.Nat.{ℕ, ◌≤◌, suc}
use mathlib.Core.Bool.{◌&&◌, Bool, cond, true, false}
use mathlib.Core.List.{List, ◌∷◌, []}
use mathlib.Core.Logic.{◌⊎◌, inl, inr, ◌≢◌}
use mathlib.Core.Option.{some}
use mathlib.Core.Path.{subst as along, ◌≡◌, refl, ◌∙◌, sym, ap}
use native.Mathlib.Decide.{ℕ_discrete}
use native.Mathlib.Omega.{arith}
use lib.Dec.{T, eqb}
use lib.ListN.{length}
use Rattle.calculus.specs.Maps.{put, get, Map, Above, Rising, overlaid, remove}
use Rattle.calculus.specs.Expressions.{if, Expression, constant, leaf, number, variable, location, revision}
use Rattle.calculus.specs.Expressions.{lambda, one, two, Arithmetic, add, subtract, less, unit}
use Rattle.calculus.specs.Formed.{member, Formed, closed_in, value}
use Rattle.calculus.specs.Numbers.{calculated, choose}
use Rattle.calculus.specs.Stores.{Cell, content}
use Rattle.calculus.specs.States.{Task, State, absorbed, view}
use Rattle.calculus.specs.Images.{Listed, Valid, ValidStore, ValidCell, ValidTask, image}
use Rattle.calculus.specs.Substitution.{substituted}
use Rattle.calculus.specs.Redexes.{Redex, expression_at, applying, choosing, calculating, making, reading}
use Rattle.calculus.specs.Redexes.{assigning, forking, joining}
use Rattle.calculus.specs.Places.{Context, plug, only, first_of, second_of, condition}
use Rattle.calculus.specs.NewNumbers.{taken_locations, taken_revisions}
use Rattle.calculus.specs.Rules.{become, Rule, by_apply, by_if, by_arithmetic, by_ref, by_read, by_assign, by_fork}
use Rattle.calculus.specs.Rules.{by_join, by_join_gone, Step}
use Rattle.calculus.proofs.Options.{T-fst, T-snd, T-both, false→ne, true→eq, none≢some, some_inj}
use Rattle.calculus.proofs.Maps.{tri, above, get_head, above_rising, Tri, below, get_tail, same, get_above}
use Rattle.calculus.proofs.Maps.{rising_put, rising_overlaid, put_cases, rising_remove, get_remove_same}
use Rattle.calculus.proofs.Maps.{get_remove_other, get_none}
use Rattle.calculus.proofs.Places.{Held, decomposed_plug, decomposed_held}
use Rattle.calculus.proofs.Members.{member_cons, member_here, member_there}
use Rattle.calculus.proofs.Stores.{Every, every_put, every_overlaid, rising_absorbed, every_absorbed}
use Rattle.calculus.proofs.Stores.{written_at, written_is}
use Rattle.calculus.proofs.NewNumbers.{smallest_is}

abbrev Inside : List ℕ → List ℕ → Type 0
Inside xs ys = (n : ℕ) → T (member n xs) → T (member n ys)

inside_cons : (y : ℕ) (xs ys : List ℕ) → Inside xs ys → Inside (y ∷ xs) (y ∷ ys)
inside_cons y xs ys h n t = go (member_cons n y xs t)
  where
    go : (n ≡ y) ⊎ T (member n xs) → T (member n (y ∷ ys))
    go (inl e) = member_here n y ys e
    go (inr u) = member_there n y ys (h n u)

-- closed and within bounds, under binders xs
unfoldable pub Ok : List ℕ → Expression → Type 0
Ok xs (constant c) = Unit {0}
Ok xs (leaf number n) = (n ≤ 65535)
Ok xs (leaf variable n) = T (member n xs) × (n ≤ 255)
Ok xs (leaf location n) = (n ≤ 255)
Ok xs (leaf revision n) = (n ≤ 63)
Ok xs (lambda x A e) = (x ≤ 255) × Ok (x ∷ xs) e
Ok xs (one o e) = Ok xs e
Ok xs (two o a b) = Ok xs a × Ok xs b
Ok xs (if a b c) = Ok xs a × Ok xs b × Ok xs c

to_ok : (xs : List ℕ) (e : Expression) → Formed e → T (closed_in xs e) → Ok xs e
unfolding Ok Formed closed_in
to_ok xs (constant c) f t = tt
to_ok xs (leaf number n) f t = f
to_ok xs (leaf variable n) f t = (t, f)
to_ok xs (leaf location n) f t = f
to_ok xs (leaf revision n) f t = f
to_ok xs (lambda x A e) f t = (f.0, to_ok (x ∷ xs) e f.1 t)
to_ok xs (one o e) f t = to_ok xs e f t
to_ok xs (two o a b) f t = (
  to_ok xs a f.0 (T-fst (closed_in xs a) (closed_in xs b) t),
  to_ok xs b f.1
      (T-snd (closed_in xs a) (closed_in xs b) t),
)
to_ok xs (if a b c) f t =
    let u = T-snd (closed_in xs a) (closed_in xs b && closed_in xs c) t in (
      to_ok xs a f.0 (T-fst (closed_in xs a) (closed_in xs b && closed_in xs c) t),
      to_ok xs b f.1
          (T-fst (closed_in xs b) (closed_in xs c) u),
      to_ok xs c f.2 (T-snd (closed_in xs b) (closed_in xs c) u),
    )

from_ok : (xs : List ℕ) (e : Expression) → Ok xs e → Formed e × T (closed_in xs e)
unfolding Ok Formed closed_in
from_ok xs (constant c) o = (tt, tt)
from_ok xs (leaf number n) o = (o, tt)
from_ok xs (leaf variable n) o = (o.1, o.0)
from_ok xs (leaf location n) o = (o, tt)
from_ok xs (leaf revision n) o = (o, tt)
from_ok xs (lambda x A e) o = let (f, t) = from_ok (x ∷ xs) e o.1 in ((o.0, f), t)
from_ok xs (one o' e) o = from_ok xs e o
from_ok xs (two o' a b) o =
    let (f, t) = from_ok xs a o.0 in
    let (g, u) = from_ok xs b o.1 in ((f, g), T-both (closed_in xs a) (closed_in xs b) t u)
from_ok xs (if a b c) o =
    let (f, t) = from_ok xs a o.0 in
    let (g, u) = from_ok xs b o.1 in
    let (h, v) = from_ok xs c o.2 in
    ((f, g, h), T-both (closed_in xs a) (closed_in xs b && closed_in xs c) t (T-both (closed_in xs b) (closed_in xs c) u v))

ok_mono : (xs ys : List ℕ) → Inside xs ys → (e : Expression) → Ok xs e → Ok ys e
unfolding Ok
ok_mono xs ys i (constant c) o = tt
ok_mono xs ys i (leaf number n) o = o
ok_mono xs ys i (leaf variable n) o = (i n o.0, o.1)
ok_mono xs ys i (leaf location n) o = o
ok_mono xs ys i (leaf revision n) o = o
ok_mono xs ys i (lambda x A e) o = (o.0, ok_mono (x ∷ xs) (x ∷ ys) (inside_cons x xs ys i) e o.1)
ok_mono xs ys i (one o' e) o = ok_mono xs ys i e o
ok_mono xs ys i (two o' a b) o = (ok_mono xs ys i a o.0, ok_mono xs ys i b o.1)
ok_mono xs ys i (if a b c) o = (ok_mono xs ys i a o.0, ok_mono xs ys i b o.1, ok_mono xs ys i c o.2)

nil_inside : (xs : List ℕ) → Inside [] xs
unfolding member
nil_inside xs n t = absurd t

ok_subst : (x : ℕ) (v : Expression) → Ok [] v → (e : Expression) (xs zs : List ℕ)
    → ((n : ℕ) → T (member n zs) → (n ≡ x) ⊎ T (member n xs)) → Ok zs e → Ok xs (substituted x v e)
unfolding Ok substituted
ok_subst x v ov (constant c) xs zs i o = tt
ok_subst x v ov (leaf number n) xs zs i o = o
ok_subst x v ov (leaf variable n) xs zs i o = go (eqb n x) refl (i n o.0)
  where
    go : (b : Bool) → eqb n x ≡ b → (n ≡ x) ⊎ T (member n xs) → Ok xs (cond b v (leaf variable n))
    go true p c = ok_mono [] xs (nil_inside xs) v ov
    go false p (inl e) = absurd (false→ne n x p e)
    go false p (inr t) = (t, o.1)
ok_subst x v ov (leaf location n) xs zs i o = o
ok_subst x v ov (leaf revision n) xs zs i o = o
ok_subst x v ov (lambda y A e) xs zs i o =
    (o.0, go (eqb y x) refl (ok_subst x v ov e (y ∷ xs) (y ∷ zs) (λ n t. deep n (member_cons n y zs t)) o.1))
  where
    deep : (n : ℕ) → (n ≡ y) ⊎ T (member n zs) → (n ≡ x) ⊎ T (member n (y ∷ xs))
    deep n (inl e) = inr (member_here n y xs e)
    deep n (inr t) = turn (i n t)
      where
        turn : (n ≡ x) ⊎ T (member n xs) → (n ≡ x) ⊎ T (member n (y ∷ xs))
        turn (inl e) = inl e
        turn (inr u) = inr (member_there n y xs u)

    shade : y ≡ x → (n : ℕ) → (n ≡ y) ⊎ T (member n zs) → T (member n (y ∷ xs))
    shade p n c = turn (deep n c)
      where
        turn : (n ≡ x) ⊎ T (member n (y ∷ xs)) → T (member n (y ∷ xs))
        turn (inl e) = member_here n y xs (e ∙ sym p)
        turn (inr u) = u

    go : (b : Bool) → eqb y x ≡ b → Ok (y ∷ xs) (substituted x v e) → Ok (y ∷ xs) (cond b e (substituted x v e))
    go true p h = ok_mono (y ∷ zs) (y ∷ xs) (λ n t. shade (true→eq y x p) n (member_cons n y zs t)) e o.1
    go false p h = h
ok_subst x v ov (one o' e) xs zs i o = ok_subst x v ov e xs zs i o
ok_subst x v ov (two o' a b) xs zs i o = (ok_subst x v ov a xs zs i o.0, ok_subst x v ov b xs zs i o.1)
ok_subst x v ov (if a b c) xs zs i o =
    (ok_subst x v ov a xs zs i o.0, ok_subst x v ov b xs zs i o.1, ok_subst x v ov c xs zs i o.2)

ok_in : (E : Context) (e : Expression) → Ok [] (plug E e) → Ok [] e
unfolding Ok
ok_in [] e h = h
ok_in (only o ∷ E) e h = ok_in E e h
ok_in (first_of o b ∷ E) e h = ok_in E e h.0
ok_in (second_of o a ∷ E) e h = ok_in E e h.1
ok_in (condition b c ∷ E) e h = ok_in E e h.0

ok_put : (E : Context) (e d : Expression) → Ok [] (plug E e) → Ok [] d → Ok [] (plug E d)
unfolding Ok
ok_put [] e d h k = k
ok_put (only o ∷ E) e d h k = ok_put E e d h k
ok_put (first_of o b ∷ E) e d h k = (ok_put E e d h.0 k, h.1)
ok_put (second_of o a ∷ E) e d h k = (h.0, ok_put E e d h.1 k)
ok_put (condition b c ∷ E) e d h k = (ok_put E e d h.0 k, h.1, h.2)

ok_calc : (o : Arithmetic) (m n : ℕ) → Ok [] (calculated o m n)
unfolding Ok
ok_calc add m n = omega arith
ok_calc subtract m n = omega arith
ok_calc less m n = tt

-- listed maps by their entries
module _ {A : Type 0} (ok : A → Type 0) (b : ℕ) where
  pub listed_get : (m : Map A) (k j : ℕ) (a : A) → Listed ok b k m → get j m ≡ some a → (k ≤ j) × (j ≤ b) × ok a
  unfolding Listed get
  listed_get [] k j a r h = none≢some h
  listed_get (e ∷ m) k j a (x, y, o, r) h = go (eqb j e.0) refl h (listed_get m (suc e.0) j a r)
    where
      go : (c : Bool) → eqb j e.0 ≡ c → cond c (some e.1) (get j m) ≡ some a
          → (get j m ≡ some a → (suc e.0 ≤ j) × (j ≤ b) × ok a) → (k ≤ j) × (j ≤ b) × ok a
      go true p q ih = let z = true→eq j e.0 p in (omega arith, omega arith, along ok (some_inj q) o)
      go false p q ih = let (u, v, w) = ih q in (omega arith, v, w)

  listed_above : (m : Map A) (k : ℕ) → Listed ok b (suc k) m → Above k m
  unfolding Listed
  listed_above [] k r = tt
  listed_above (e ∷ m) k (x, y, o, r) = (x, listed_above m e.0 r)

  pub listed_rising : (m : Map A) (k : ℕ) → Listed ok b k m → Rising m
  unfolding Listed
  listed_rising [] k r = tt
  listed_rising (e ∷ m) k (x, y, o, r) = listed_above m e.0 r

  pub listed_make : (m : Map A) (k : ℕ) → Rising m
      → ((j : ℕ) (a : A) → get j m ≡ some a → (k ≤ j) × (j ≤ b) × ok a) → Listed ok b k m
  unfolding Listed
  listed_make [] k u h = tt
  listed_make (e ∷ m) k u h =
      let (x, y, z) = h e.0 e.1 (get_head e m) in
      (x, y, z, listed_make m (suc e.0) (above_rising e.0 m u) (λ j a g. tail j a g (tri e.0 j)))
    where
      tail : (j : ℕ) (a : A) → get j m ≡ some a → Tri e.0 j → (suc e.0 ≤ j) × (j ≤ b) × ok a
      tail j a g (below l) =
          let (x, y, z) = h j a (get_tail j e m (λ p. absurd (omega arith)) ∙ g) in (l, y, z)
      tail j a g (same p) = none≢some (sym (get_above e.0 j m u (omega arith)) ∙ g)
      tail j a g (above l) = none≢some (sym (get_above e.0 j m u (omega arith)) ∙ g)

-- valid, by entries
abbrev pub CellV : ℕ → Cell → Type 0
CellV l c = (l ≤ 255) × Ok [] (content c) × T (value (content c))

pub record StoreV (m : Map Cell) : Type 0 where
  pub up : Rising m
  pub all : Every CellV m

pub record LocalV (L : Task) : Type 0 where
  pub snapshot : StoreV L.snapshot
  pub local : StoreV L.local
  pub expression : Ok [] L.expression

pub record StateV (s : State) : Type 0 where
  pub up : Rising s
  pub all : (r : ℕ) (L : Task) → get r s ≡ some L → (r ≤ 63) × LocalV L

store_v : (m : Map Cell) → ValidStore m → StoreV m
store_v m r =
    record {
      up = listed_rising ValidCell 255 m 0 r;
      all = λ l v h. let (x, y, ((f, t), u)) = listed_get ValidCell 255 m 0 l v r h in (y, to_ok [] (content v) f t, u);
    }

v_store : (m : Map Cell) → StoreV m → ValidStore m
v_store m s =
    listed_make ValidCell 255 m 0 s.up
    (λ l v h. let (x, y, z) = s.all l v h in (omega arith, x, (from_ok [] (content v) y, z)))

pub valid_v : (s : State) → Valid s → StateV s
valid_v s v =
    record {
      up = listed_rising ValidTask 63 s 0 v.tasks;
      all =
          λ r L h. let (x, y, o) =
          listed_get ValidTask 63 s 0 r L v.tasks h in (
            y,
            record {
              snapshot = store_v L.snapshot o.snapshot;
              local = store_v L.local o.local;
              expression = to_ok [] L.expression o.expression.0 o.expression.1;
            },
          );
    }

pub v_valid : (s : State) → StateV s → length (image s) ≤ 8192 → Valid s
v_valid s v h =
    record {
      tasks
          = listed_make ValidTask 63 s 0 v.up
          (λ q L g.
          let (x, y) = v.all q L g in (
            omega arith,
            x,
            record {
              snapshot = v_store L.snapshot y.snapshot;
              local = v_store L.local y.local;
              expression = from_ok [] L.expression y.expression;
            },
          ));
      short = h;
    }

-- stores
put_v : (l : ℕ) (v : Cell) (m : Map Cell) → CellV l v → StoreV m → StoreV (put l v m)
put_v l v m hv s = record { up = rising_put l v m s.up; all = every_put CellV l v m hv s.all }

over_v : (m n : Map Cell) → StoreV m → StoreV n → StoreV (overlaid m n)
over_v m n sm sn = record { up = rising_overlaid m n sm.up; all = every_overlaid CellV m n sm.all sn.all }

absorb_v : (L J : Task) → StoreV L.local → StoreV J.local → StoreV (absorbed L J)
absorb_v L J hl hj = record { up = rising_absorbed L J hl.up; all = every_absorbed CellV L J hl.all hj.all }

put_state : (r : ℕ) (K : Task) (s : State) → r ≤ 63 → LocalV K → StateV s → StateV (put r K s)
put_state r K s h k v = record { up = rising_put r K s v.up; all = λ q L g. go q L (put_cases q r K L s g) }
  where
    go : (q : ℕ) (L : Task) → ((q ≡ r) × (K ≡ L)) ⊎ ((q ≢ r) × (get q s ≡ some L)) → (q ≤ 63) × LocalV L
    go q L (inl (p, i)) = (omega arith, along LocalV i k)
    go q L (inr (d, g)) = v.all q L g

remove_state : (r : ℕ) (s : State) → StateV s → StateV (remove r s)
remove_state r s v = record { up = rising_remove r s v.up; all = λ q L g. go q L g (ℕ_discrete q r) }
  where
    go : (q : ℕ) (L : Task) → get q (remove r s) ≡ some L → Dec (q ≡ r) → (q ≤ 63) × LocalV L
    go q L g (yes p) = none≢some (sym (get_remove_same r s v.up) ∙ ap (λ x. get x (remove r s)) (sym p) ∙ g)
    go q L g (no d) = v.all q L (sym (get_remove_other r q s d) ∙ g)

module _ (s : State) (sv : StateV s) (r : ℕ) (L : Task) (at : get r s ≡ some L) (E : Context) where
  here_v : LocalV L
  here_v = (sv.all r L at).1

  in_site : (R : Redex) → plug E (expression_at R) ≡ L.expression → Ok [] (expression_at R)
  in_site R site = ok_in E (expression_at R) (along (Ok []) (sym site) here_v.expression)

  becomes : (t : Map Cell) (c : Expression) (R : Redex) → plug E (expression_at R) ≡ L.expression → StoreV t → Ok [] c
      → StateV (put r (become L t (plug E c)) s)
  becomes t c R site st oc =
      put_state r (become L t (plug E c)) s (sv.all r L at).0
      (record {
        snapshot = here_v.snapshot;
        local = st;
        expression = ok_put E (expression_at R) c
            (along (Ok []) (sym site) here_v.expression) oc;
      }) sv

  view_v : StoreV (view L)
  view_v = over_v L.snapshot L.local here_v.snapshot here_v.local

  pub rule_valid : (R : Redex) (u : State) → plug E (expression_at R) ≡ L.expression → Held R → Rule r s L E R u
      → StateV u
  unfolding Ok
  rule_valid R u site held (by_apply f v) =
      let k = in_site (applying f v) site in
      becomes L.local _ (applying f v) site here_v.local
      (ok_subst f.variable v k.1 f.body [] (f.variable ∷ []) (λ n t. member_cons n f.variable [] t)
      k.0.1)
  rule_valid R u site held (by_if t b c) =
      let k = in_site (choosing t b c) site in
      becomes L.local _ (choosing t b c) site here_v.local (go t k.1 k.2)
    where
      go : (t : Bool) → Ok [] b → Ok [] c → Ok [] (choose t b c)
      go true x y = x
      go false x y = y
  rule_valid R u site held (by_arithmetic o m n) =
      becomes L.local _ (calculating o m n) site here_v.local (ok_calc o m n)
  rule_valid R u site held (by_ref v l h) =
      let x = (smallest_is 256 0 (taken_locations s) h).high in
      becomes (put l v L.local) (leaf location l) (making v) site
      (put_v l v L.local (omega arith, in_site (making v) site, held) here_v.local) (omega arith)
  rule_valid R u site held (by_read l v h) =
      becomes L.local (content v) (reading l) site here_v.local (view_v.all l v h).1
  rule_valid R u site held (by_assign l v d h) =
      let (c, w) = written_at (view L) l v d h in
      let e = sym (written_is (view L) l v d h) in
      becomes (put l d L.local) (constant unit) (assigning l v) site
      (put_v l d L.local
      ((view_v.all l c w).0, along (Ok []) e (in_site (assigning l v) site).1, along (λ x. T (value x)) e held)
      here_v.local) tt
  rule_valid R u site held (by_fork e r' h) =
      let x = (smallest_is 64 0 (taken_revisions s) h).high in
      put_state r' (record { snapshot = view L; local = []; expression = e })
      (put r (become L L.local (plug E (leaf revision r'))) s) (omega arith)
      (record {
        snapshot = view_v;
        local = record { up = tt; all = λ l v k. none≢some (sym (get_none l) ∙ k) };
        expression = in_site (forking e) site;
      })
      (becomes L.local (leaf revision r') (forking e) site here_v.local (omega arith))
  rule_valid R u site held (by_join r' J h v) =
      put_state r (become L (absorbed L J) (plug E (constant unit))) (remove r' s) (sv.all r L at).0
      (record {
        snapshot = here_v.snapshot;
        local = absorb_v L J here_v.local (sv.all r' J h).1.local;
        expression
            = ok_put E (expression_at (joining r')) (constant unit) (along (Ok []) (sym site) here_v.expression) tt;
      })
      (remove_state r' s sv)
  rule_valid R u site held (by_join_gone r' h) = record { up = tt; all = λ q K g. none≢some (sym (get_none q) ∙ g) }

pub step_keeps_valid : (r : ℕ) (s u : State) → Valid s → Step r s u → length (image u) ≤ 8192 → Valid u
step_keeps_valid r s u v t h =
    v_valid u (rule_valid s (valid_v s v) r t.task t.live t.context t.redex u (decomposed_plug t.place)
    (decomposed_held t.place) t.rule) h
