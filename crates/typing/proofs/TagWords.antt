-- A tag is known by its word.
use mathlib.Core.List.{List, ◌∷◌, []}
use mathlib.Core.Path.{◌≡◌, refl, ap, sym, ◌∙◌}
use lib.ListN.{get_or}
use Prim.Native.Nat.{ℕ, ◌<◌}
use native.Mathlib.Omega.{arith}
use Rattle.words.specs.declared.tags.Tag.{Tag}
use Rattle.words.specs.declared.tags.Tag.TheVariants.{Unit as UnitTag, False, True, Number, Variable, Location, Revision}
use Rattle.words.specs.declared.tags.Tag.TheVariants.{Lambda, Apply, If, Ref, Read, Assign, Fork, Join, Add, Subtract}
use Rattle.words.specs.declared.tags.Tag.TheVariants.{Less}
use Rattle.words.specs.Tags.{word_of}

tags : List Tag
tags =
    UnitTag ∷ False ∷ True ∷ Number ∷ Variable ∷ Location ∷ Revision ∷ Lambda ∷ Apply ∷ If ∷ Ref ∷ Read ∷ Assign ∷ Fork
    ∷ Join ∷ Add ∷ Subtract ∷ Less ∷ []

tag_at : (g : Tag) → get_or tags (word_of g) UnitTag ≡ g
unfolding tags
tag_at UnitTag = refl
tag_at False = refl
tag_at True = refl
tag_at Number = refl
tag_at Variable = refl
tag_at Location = refl
tag_at Revision = refl
tag_at Lambda = refl
tag_at Apply = refl
tag_at If = refl
tag_at Ref = refl
tag_at Read = refl
tag_at Assign = refl
tag_at Fork = refl
tag_at Join = refl
tag_at Add = refl
tag_at Subtract = refl
tag_at Less = refl

pub same_tag : (g h : Tag) → word_of g ≡ word_of h → g ≡ h
same_tag g h e = sym (tag_at g) ∙ ap (λ (w : ℕ). get_or tags w UnitTag) e ∙ tag_at h

pub word_below : (g : Tag) → word_of g < 18
word_below UnitTag = omega arith
word_below False = omega arith
word_below True = omega arith
word_below Number = omega arith
word_below Variable = omega arith
word_below Location = omega arith
word_below Revision = omega arith
word_below Lambda = omega arith
word_below Apply = omega arith
word_below If = omega arith
word_below Ref = omega arith
word_below Read = omega arith
word_below Assign = omega arith
word_below Fork = omega arith
word_below Join = omega arith
word_below Add = omega arith
word_below Subtract = omega arith
word_below Less = omega arith
