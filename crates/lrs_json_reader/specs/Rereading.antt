-- What is left to read of a written form, for the functions that read it back.
use Rattle.std.specs.Prelude.{◌≡◌, ℕ, List, [], ◌∷◌, ◌++◌, map, Bool, true, false, Result, IsUtf8}
use Rattle.lrs_decimal.specs.Numbers.{IsNumber, Ends}
use Rattle.lrs_json.specs.Json.{Json, Elements, no_elements, element, Members, no_members, member}
use Rattle.lrs_json.specs.View.{view, member_view}
use Rattle.lrs_json.specs.Spellable.{IsSpellable, AreSpellableElements, AreSpellableMembers}
use Rattle.lrs_json.specs.Written.{quoted, written, elements_text, members_text}
use Rattle.lrs_json.specs.declared.tree.Tree.{Tree, Words, Number}
use Rattle.lrs_json.specs.declared.tree.Member.{Member}
use Rattle.lrs_json_reader.specs.Grammar.{Quoted, Value}
use Rattle.lrs_json_reader.specs.Located.{plain}
use Rattle.lrs_json_reader.specs.Steps.{Finds}
use Rattle.lrs_json_reader.specs.declared.cursor.Stop.{Stop}

-- Whatever stands at old is what was read, and new follows it, unless memory ran out.
abbrev pub Rereads : {T X Y : Type 0} → (X → List ℕ → List ℕ → Type 0) → (X → Y) → (T → Y) → List ℕ
    → Result T Stop → List ℕ → Type 0
Rereads {X = X} Is shown seen old r new =
    (x : X) (rest : List ℕ) → Is x old rest → Ends rest → Finds r (λ t. (seen t ≡ shown x) × (new ≡ rest))

-- a value as it is written
abbrev pub WrittenAt : Json → List ℕ → List ℕ → Type 0
WrittenAt j bytes rest = IsSpellable j × (bytes ≡ written j ++ rest)

-- a name and its value
abbrev pub NamedAt : List ℕ × Json → List ℕ → List ℕ → Type 0
NamedAt m bytes rest = IsUtf8 m.0 × IsSpellable m.1 × (bytes ≡ quoted m.0 ++ 58 ∷ (written m.1 ++ rest))

abbrev pub NumeralAt : List ℕ → List ℕ → List ℕ → Type 0
NumeralAt s bytes rest = (bytes ≡ s ++ rest) × IsNumber s

-- the same of a literal word, of a string, of a number, of a value that holds no others, of any value, and of a member
abbrev pub RereadsWord : List ℕ → Tree → List ℕ → Result Tree Stop → List ℕ → Type 0
RereadsWord word tree old r new =
    Rereads {X = Unit {0}} (λ _ bytes rest. bytes ≡ word ++ rest) (λ _. tree) (λ t. t) old r new

abbrev pub RereadsString : List ℕ → Result Tree Stop → List ℕ → Type 0
RereadsString old r new = Rereads Quoted Words (λ t. t) old r new

abbrev pub RereadsNumber : List ℕ → Result Tree Stop → List ℕ → Type 0
RereadsNumber old r new = Rereads NumeralAt Number (λ t. t) old r new

abbrev pub RereadsLeaf : List ℕ → Result Tree Stop → List ℕ → Type 0
RereadsLeaf old r new = Rereads Value plain view old r new

abbrev pub RereadsValue : List ℕ → Result Tree Stop → List ℕ → Type 0
RereadsValue old r new = Rereads WrittenAt (λ j. j) view old r new

abbrev pub RereadsMember : List ℕ → Result Member Stop → List ℕ → Type 0
RereadsMember old r new = Rereads NamedAt (λ m. m) member_view old r new

-- values, and elements after them
abbrev pub before_elements : List Json → Elements → Elements
before_elements [] more = more
before_elements (j ∷ js) more = element j (before_elements js more)

abbrev pub before_members : List (List ℕ × Json) → Members → Members
before_members [] more = more
before_members (m ∷ ms) more = member m.0 m.1 (before_members ms more)

-- Of all elements these were read. The next one stands here, if one comes, else what follows the closing bracket.
abbrev pub ElementsLeft : Bool → Elements → List Tree → List ℕ → List ℕ → Type 0
ElementsLeft true all read here rest =
    (j : Json) × (more : Elements) × (all ≡ before_elements (map view read) (element j more))
    × WrittenAt j here (elements_text true more ++ rest) × AreSpellableElements more
ElementsLeft false all read here rest = (all ≡ before_elements (map view read) no_elements) × (here ≡ rest)

abbrev pub MembersLeft : Bool → Members → List Member → List ℕ → List ℕ → Type 0
MembersLeft true all read here rest =
    (m : List ℕ × Json) × (more : Members) × (all ≡ before_members (map member_view read) (member m.0 m.1 more))
    × NamedAt m here (members_text true more ++ rest) × AreSpellableMembers more
MembersLeft false all read here rest = (all ≡ before_members (map member_view read) no_members) × (here ≡ rest)

-- One more was read, and whether another comes.
abbrev pub RereadsNextItem : List Tree → List ℕ → Result Bool Stop → List Tree → List ℕ → Type 0
RereadsNextItem read here r reread next = (all : Elements) (rest : List ℕ) → ElementsLeft true all read here rest
    → Finds r (λ goes. ElementsLeft goes all reread next rest)

abbrev pub RereadsNextMember : List Member → List ℕ → Result Bool Stop → List Member → List ℕ → Type 0
RereadsNextMember read here r reread next = (all : Members) (rest : List ℕ) → MembersLeft true all read here rest
    → Finds r (λ goes. MembersLeft goes all reread next rest)
