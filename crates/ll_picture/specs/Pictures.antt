-- What is promised of a picture's text. own
use Rattle.std.specs.Prelude.{⊤, ◌≡◌, ℕ, zero, suc, List, ◌++◌, codes}

-- the text begins with this
abbrev pub IsFrontOf : (front text : List ℕ) → Type 0
IsFrontOf front text = (back : List ℕ) × (text ≡ front ++ back)

abbrev pub Begins : List ℕ → Type 0
Begins text = IsFrontOf (codes "<svg ") text

abbrev pub Ends : List ℕ → Type 0
Ends text = (front : List ℕ) × (text ≡ front ++ codes "</svg>\n")

-- how the element of a schedule's line begins
abbrev pub mark : List ℕ
mark = codes "<text class='line' "

-- the text has this many marks, one after the other
abbrev pub HasMarks : ℕ → List ℕ → Type 0
HasMarks zero text = ⊤
HasMarks (suc n) text = (front : List ℕ) × IsFrontOf (front ++ mark) text × HasMarks n front

-- the text begins and ends as a picture does, and has a mark for each of this many lines
abbrev pub IsPicture : ℕ → List ℕ → Type 0
IsPicture lines text = Begins text × HasMarks lines text × Ends text
