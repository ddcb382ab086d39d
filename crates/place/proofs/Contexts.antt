-- The words of an expression in a frame and in a context: those before the hole, its own, and those after it.
use mathlib.Core.Path.{◌≡◌, refl, sym, ap, ◌∙◌}
use mathlib.Core.List.{[], ◌∷◌, ◌++◌, append_assoc, append-nil}
use Rattle.calculus.specs.Expressions.{Expression}
use Rattle.calculus.specs.Tags.{one_tag, two_tag, tag_word}
use Rattle.calculus.specs.Words.{words}
use Rattle.calculus.specs.Formed.{Formed}
use Rattle.calculus.specs.Places.{Frame, only, first_of, second_of, condition, fill, Context, plug}
use Rattle.place.specs.Search.{leading, trailing, prefix, suffix}

pub words_fill : (f : Frame) (e : Expression) → words (fill f e) ≡ leading f ++ (words e ++ trailing f)
unfolding words
words_fill (only o) e = ap (λ l. tag_word (one_tag o) ∷ l) (sym (append-nil (words e)))
words_fill (first_of o b) e = refl
words_fill (second_of o a) e = ap (λ l. tag_word (two_tag o) ∷ (words a ++ l)) (sym (append-nil (words e)))
words_fill (condition b c) e = refl

pub words_plug : (E : Context) (e : Expression) → words (plug E e) ≡ prefix E ++ (words e ++ suffix E)
unfolding prefix suffix
words_plug [] e = sym (append-nil (words e))
words_plug (f ∷ E) e =
    words_fill f (plug E e)
    ∙ ap (λ l. leading f ++ (l ++ trailing f)) (words_plug E e)
    ∙ simp append_assoc

-- what a frame holds is well-formed where the whole is
pub formed_child : (f : Frame) (e : Expression) → Formed (fill f e) → Formed e
unfolding Formed
formed_child (only o) e h = h
formed_child (first_of o b) e h = h.0
formed_child (second_of o a) e h = h.1
formed_child (condition b c) e h = h.0
