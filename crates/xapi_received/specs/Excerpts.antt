-- The excerpts of a text, however they are kept.
use Rattle.std.specs.Prelude.{List, [], ◌∷◌}
use Rattle.xapi_received.specs.declared.marks.Excerpt.{Excerpt}
use Rattle.xapi_received.specs.declared.excerpts.Excerpts.{Excerpts}
use Rattle.xapi_received.specs.declared.excerpts.Excerpts.TheVariants.{Empty, One, Two, More}

-- in their order
abbrev pub listed : Excerpts → List Excerpt
listed Empty = []
listed (One excerpt) = excerpt ∷ []
listed (Two first second) = first ∷ second ∷ []
listed (More excerpts) = excerpts.items
