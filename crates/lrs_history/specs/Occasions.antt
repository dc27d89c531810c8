-- What an entry has beside its write, as it meets a store.
use Rattle.std.specs.Prelude.{ℕ, List, [], ◌∷◌}
use Rattle.lrs_command.specs.declared.who.Who.{Who}
use Rattle.lrs_history.specs.Whose.{who_is}
use Rattle.lrs_names.specs.declared.draw.Draw.{Draw}
use Rattle.lrs_state.specs.State.{State, used_in}
use Rattle.lrs_record.specs.declared.entry.Entry.{Entry}
use Rattle.lrs_record.specs.declared.entry.Write.{Write}
use Rattle.lrs_record.specs.declared.entry.Write.TheVariants.{Put, Post}
use Rattle.lrs_replies.specs.Texts.{token_text}
use Rattle.xapi_pages.specs.XapiIndexBatches.{given_ids}
use Rattle.lrs_ids.specs.Ids.{Supply, supply_of}

-- What an entry has beside its write: who asks, when, the token that it can give away, and the ids that it can make.
pub record Occasion : Type 0 where
  pub by : Who
  pub moment : ℕ
  pub token : List ℕ
  pub supply : Supply

-- the ids that a write brings itself
abbrev pub given_in : Write → List (List ℕ)
given_in (Put id statement) = id ∷ []
given_in (Post statements) = given_ids statements
given_in other = []

-- The ids that an entry can make: from the draw's name on. None is used, and none is brought.
abbrev pub supply_in : State → Write → Draw → Supply
supply_in st write draw = supply_of (used_in st) (given_in write) draw.name

-- The token tells the index of the entry.
abbrev pub occasion : State → Entry → Occasion
occasion st e = record {
  by = who_is st e.caller;
  moment = e.moment;
  token = token_text st.length e.draw.secret;
  supply = supply_in st e.write e.draw;
}
