-- Words that are a script.
use Prim.Native.Nat.{ℕ, ◌≤◌}
use mathlib.Core.Bool.{Bool, false, true}
use mathlib.Core.List.{List}
use mathlib.Core.Option.{none, some, Option}
use mathlib.Core.Path.{◌≡◌, ◌∙◌, refl, sym}
use lib.Dec.{leb}
use lib.ListN.{length}
use borrow.Author.Tests.{leb-true}
use Rattle.calculus.specs.Answers.{script, script_of, script_if, no_script}
use Rattle.calculus.specs.Expressions.{Expression}
use Rattle.calculus.specs.Formed.{Formed, closed, holds_handle}
use Rattle.calculus.specs.Numbers.{choose}
use Rattle.calculus.specs.Reading.{expression_of}
use Rattle.calculus.specs.Words.{words}
use Rattle.words.proofs.Scripted.{words_of}

-- a script's tree
pub record Scripted (ws : List ℕ) : Type 0 where
  pub tree : Expression
  pub is : script_of ws ≡ script tree
  pub words : ws ≡ words tree
  pub formed : Formed tree
  pub few : length ws ≤ 2048

script_apart : (e : Expression) (n : ℕ) → script e ≡ no_script n → ⊥
script_apart e n p = cc

pub scripted : (ws : List ℕ) (e : Expression) → script_of ws ≡ script e → Scripted ws
unfolding script_of
scripted ws e h = go (leb (length ws) 2048) refl
  where
    none_so : (n : ℕ) → script_of ws ≡ no_script n → Scripted ws
    none_so n i = absurd (script_apart e n (sym h ∙ i))

    tree : (e : Expression) → expression_of ws ≡ some e → script_of ws ≡ script e → length ws ≤ 2048 → Scripted ws
    tree e g i l =
        let (u, v) = words_of ws e g in
        record { tree = e; is = i; words = u; formed = v; few = l }

    ends : (e : Expression) → expression_of ws ≡ some e → length ws ≤ 2048 → (a b : Bool)
        → script_of ws ≡ choose a (no_script 11) (choose b (script e) (no_script 12)) → Scripted ws
    ends e g l true b i = none_so 11 i
    ends e g l false true i = tree e g i l
    ends e g l false false i = none_so 12 i

    formed : length ws ≤ 2048 → (o : Option Expression) → expression_of ws ≡ o → script_of ws ≡ script_if o → Scripted ws
    formed l none g i = none_so 10 i
    formed l (some e) g i = ends e g l (holds_handle e) (closed e) i

    go : (b : Bool) → leb (length ws) 2048 ≡ b → Scripted ws
    go true q = formed (leb-true (length ws) 2048 q) (expression_of ws) refl (rw q refl)
    go false q = none_so 10 (rw q refl)
