-- The agent and the group that a value is.
use Rattle.std.specs.Prelude.{◌≡◌, List, [], ◌∷◌, Some, codes}
use Rattle.std.specs.Option.{option_map_or}
use Rattle.lrs_json.specs.Json.{Json, Elements, no_elements, element}
use Rattle.lrs_json.specs.Find.{find}
use Rattle.lrs_agents.specs.Identifiers.{identifier_of}
use Rattle.lrs_json.specs.Parts.{items_of}
use Rattle.lrs_names.specs.Members.{text_under}
use Rattle.lrs_agents.specs.declared.agents.Agent.{Agent}
use Rattle.lrs_agents.specs.declared.groups.Group.{Group}

pub record IsAgentOf (j : Json) (a : Agent) : Type 0 where
  pub ifi : identifier_of j ≡ Some a.ifi
  pub name : text_under (codes "name") j ≡ a.name

-- one for each, in their order
abbrev pub AreAgentsOf : Elements → List Agent → Type 0
AreAgentsOf no_elements [] = Unit {0}
AreAgentsOf no_elements (agent ∷ agents) = ⊥
AreAgentsOf (element j js) [] = ⊥
AreAgentsOf (element j js) (agent ∷ agents) = IsAgentOf j agent × AreAgentsOf js agents

-- the values of `member`, none if it is missing
abbrev pub member_items : Json → Elements
member_items j = option_map_or items_of (find (codes "member") j) no_elements

pub record IsGroupOf (j : Json) (g : Group) : Type 0 where
  pub ifi : identifier_of j ≡ g.ifi
  pub name : text_under (codes "name") j ≡ g.name
  pub members : AreAgentsOf (member_items j) g.members
