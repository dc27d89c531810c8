-- The member that identifies, and what stands round it, as they are read.
use Rattle.std.proofs.Common.{◌≡◌, ℕ, List, [], ◌∷◌, ◌++◌, Result, Ok, Err, OnOk, Option, Some, None, IfSome, IsUtf8, codes, append_assoc, refl, sym, ◌∙◌}
use Rattle.lrs_agents.specs.Identifiers.{account_json, identifier_json}
use Rattle.lrs_agents.specs.declared.agents.Agent.{Agent}
use Rattle.lrs_agents.specs.declared.identifiers.Ifi.{Ifi}
use Rattle.lrs_agents.specs.declared.identifiers.Ifi.TheVariants.{Mbox, MboxSha1, OpenId, Account}
use Rattle.lrs_agent_texts.specs.Texts.{agent_json}
use Rattle.lrs_decimal.specs.Numbers.{Ends}
use Rattle.lrs_json.specs.Written.{escaped, quoted, written}
use Rattle.lrs_json_reader.specs.declared.cursor.Stop.{Stop}
use Rattle.lrs_json_reader.specs.declared.cursor.Stop.TheVariants.{Memory}
use Rattle.lrs_fields.specs.Reading.{IsKeptValue, MayFollowOptional, Reads, ReadsField, ReadsOptional, enclosed_text, field_text, identifier_text, optional_text}
use Rattle.lrs_fields.specs.Values.{HoldsActor, HoldsAgent, actor_value, agent_value, text_value, value_json}
use Rattle.lrs_fields.proofs.Differing.{differ_at}
use Rattle.lrs_fields.proofs.Sequences.{before, behind, both_stand, both_text, closed, made, mapped, not_begun, not_closed, paired, two}

-- ---- an account

abbrev pub account_text : List ℕ × List ℕ → List ℕ
account_text own = written (account_json own.0 own.1)

abbrev pub IsAccount : List ℕ × List ℕ → Type 0
IsAccount own = IsUtf8 own.0 × IsUtf8 own.1

abbrev pub home : List ℕ → List ℕ
home = field_text (codes "{\"homePage\":") text_value

abbrev pub name : List ℕ → List ℕ
name = field_text (codes ",\"name\":") text_value

account_parts : (own : List ℕ × List ℕ) → account_text own ≡ both_text home name own ++ 125 ∷ []
unfolding escaped
account_parts own = simp append_assoc refl

abbrev pub IsOpen : List ℕ × List ℕ → Type 0
IsOpen = both_stand (IsKeptValue text_value) (IsKeptValue text_value)

-- the two texts, without the brace
abbrev pub open_account : List ℕ × List ℕ → List ℕ
open_account = both_text home name

pub two_texts : (old mid new : List ℕ) (r s : Result (List ℕ) Stop) → ReadsField (codes "{\"homePage\":") text_value old r mid
    → OnOk r (ReadsField (codes ",\"name\":") text_value mid s new) → Reads open_account IsOpen Ends old (paired r s) new
two_texts old mid new r s first second =
    two home name (IsKeptValue text_value) (IsKeptValue text_value) Ends Ends old mid new r s first second (λ b rest is f. refl)

one_account : (old new : List ℕ) (r : Result (List ℕ × List ℕ) Stop) → Reads (before open_account (125 ∷ [])) IsOpen Ends old r new
    → Reads account_text IsAccount Ends old (mapped (λ own. own) r) new
one_account old new r =
    made (λ own. own) (before open_account (125 ∷ [])) account_text IsOpen IsAccount Ends Ends old new r
    (λ own is. ((is.0.0, is.1.0), account_parts own)) (λ own rest is whole. (own, ((is.0, tt), (is.1, tt)), refl)) (λ rest f. f)

pub closed_account : (old new : List ℕ) (r : Result (List ℕ × List ℕ) Stop) → Reads (before open_account (125 ∷ [])) IsOpen Ends old r new → Reads account_text IsAccount Ends old r new
closed_account old new (Ok own) reads = one_account old new (Ok own) reads
closed_account old new (Err e) reads = one_account old new (Err e) reads

pub home_failed : (old new own : List ℕ) (e : Stop) → ReadsField (codes "{\"homePage\":") text_value old (Err e) new → Reads account_text IsAccount Ends old (Err e) own
home_failed old new own e first =
    closed_account old own (Err e) (not_begun open_account (125 ∷ []) IsOpen Ends Ends old new own e (two_texts old new new (Err e) (Err e) first tt) (λ rest f. refl))

pub name_failed : (old mid new own a : List ℕ) (e : Stop) → ReadsField (codes "{\"homePage\":") text_value old (Ok a) mid → ReadsField (codes ",\"name\":") text_value mid (Err e) new
    → Reads account_text IsAccount Ends old (Err e) own
name_failed old mid new own a e first second =
    closed_account old own (Err e) (not_begun open_account (125 ∷ []) IsOpen Ends Ends old new own e (two_texts old mid new (Ok a) (Err e) first second) (λ rest f. refl))

pub brace_missing : (old mid new own a b : List ℕ) (e : Stop) → ReadsField (codes "{\"homePage\":") text_value old (Ok a) mid → ReadsField (codes ",\"name\":") text_value mid (Ok b) new
    → ((rest : List ℕ) → new ≡ 125 ∷ rest → e ≡ Memory) → Reads account_text IsAccount Ends old (Err e) own
brace_missing old mid new own a b e first second never =
    closed_account old own (Err e) (not_closed open_account (125 ∷ []) IsOpen Ends Ends old new own (a, b) e (two_texts old mid new (Ok a) (Ok b) first second) never (λ rest f. refl))

pub account_read : (old mid new own a b : List ℕ) → ReadsField (codes "{\"homePage\":") text_value old (Ok a) mid → ReadsField (codes ",\"name\":") text_value mid (Ok b) new → new ≡ 125 ∷ own
    → ((rest : List ℕ) → new ≡ 125 ∷ rest → own ≡ rest) → Reads account_text IsAccount Ends old (Ok (a, b)) own
account_read old mid new own a b first second found only =
    closed_account old own (Ok (a, b)) (closed open_account (125 ∷ []) IsOpen Ends Ends old new own (a, b) (two_texts old mid new (Ok a) (Ok b) first second) found only (λ rest f. refl))

-- ---- which of the four

abbrev pub at_account : List ℕ
at_account = codes "\"account\":"

abbrev pub at_mbox : List ℕ
at_mbox = codes "\"mbox\":"

abbrev pub at_sha1 : List ℕ
at_sha1 = codes "\"mbox_sha1sum\":"

abbrev pub at_openid : List ℕ
at_openid = codes "\"openid\":"

account_only : (old mid rest : List ℕ) (ifi : Ifi) → HoldsAgent ifi → old ≡ at_account ++ mid → old ≡ identifier_text ifi ++ rest → (own : List ℕ × List ℕ) × IsAccount own × (Account own.0 own.1 ≡ ifi)
unfolding escaped
account_only old mid rest (Account h n) is took whole = ((h, n), is, refl)
account_only old mid rest (Mbox t) is took whole = absurd (differ_at _ _ 1 refl (sym took ∙ whole))
account_only old mid rest (MboxSha1 t) is took whole = absurd (differ_at _ _ 1 refl (sym took ∙ whole))
account_only old mid rest (OpenId t) is took whole = absurd (differ_at _ _ 1 refl (sym took ∙ whole))

mbox_only : (old mid rest : List ℕ) (ifi : Ifi) → HoldsAgent ifi → old ≡ at_mbox ++ mid → old ≡ identifier_text ifi ++ rest → (text : List ℕ) × IsUtf8 text × (Mbox text ≡ ifi)
unfolding escaped
mbox_only old mid rest (Account h n) is took whole = absurd (differ_at _ _ 1 refl (sym took ∙ whole))
mbox_only old mid rest (Mbox t) is took whole = (t, is, refl)
mbox_only old mid rest (MboxSha1 t) is took whole = absurd (differ_at _ _ 5 refl (sym took ∙ whole))
mbox_only old mid rest (OpenId t) is took whole = absurd (differ_at _ _ 1 refl (sym took ∙ whole))

sha1_only : (old mid rest : List ℕ) (ifi : Ifi) → HoldsAgent ifi → old ≡ at_sha1 ++ mid → old ≡ identifier_text ifi ++ rest → (text : List ℕ) × IsUtf8 text × (MboxSha1 text ≡ ifi)
unfolding escaped
sha1_only old mid rest (Account h n) is took whole = absurd (differ_at _ _ 1 refl (sym took ∙ whole))
sha1_only old mid rest (Mbox t) is took whole = absurd (differ_at _ _ 5 refl (sym took ∙ whole))
sha1_only old mid rest (MboxSha1 t) is took whole = (t, is, refl)
sha1_only old mid rest (OpenId t) is took whole = absurd (differ_at _ _ 1 refl (sym took ∙ whole))

abbrev pub Never : List ℕ → List ℕ → Type 0
Never old front = (rest : List ℕ) → old ≡ front ++ rest → ⊥

openid_only : (old rest : List ℕ) (ifi : Ifi) → HoldsAgent ifi → Never old at_account → Never old at_mbox → Never old at_sha1 → old ≡ identifier_text ifi ++ rest
    → (text : List ℕ) × IsUtf8 text × (OpenId text ≡ ifi)
unfolding escaped
openid_only old rest (Account h n) is a m s whole = absurd (a (written (account_json h n) ++ rest) whole)
openid_only old rest (Mbox t) is a m s whole = absurd (m (quoted t ++ rest) whole)
openid_only old rest (MboxSha1 t) is a m s whole = absurd (s (quoted t ++ rest) whole)
openid_only old rest (OpenId t) is a m s whole = (t, is, refl)

pub is_account : (old mid new : List ℕ) (r : Result (List ℕ × List ℕ) Stop) → old ≡ at_account ++ mid → Reads (behind at_account account_text) IsAccount Ends old r new
    → Reads identifier_text HoldsAgent Ends old (mapped (λ own. Account own.0 own.1) r) new
unfolding escaped
is_account old mid new r took =
    made (λ own. Account own.0 own.1) (behind at_account account_text) identifier_text IsAccount HoldsAgent Ends Ends old new r
    (λ own is. (is, refl)) (λ ifi rest is whole. account_only old mid rest ifi is took whole) (λ rest f. f)

pub is_mbox : (old mid new : List ℕ) (r : Result (List ℕ) Stop) → old ≡ at_mbox ++ mid → Reads (behind at_mbox quoted) IsUtf8 Ends old r new
    → Reads identifier_text HoldsAgent Ends old (mapped Mbox r) new
unfolding escaped
is_mbox old mid new r took =
    made Mbox (behind at_mbox quoted) identifier_text IsUtf8 HoldsAgent Ends Ends old new r
    (λ own is. (is, refl)) (λ ifi rest is whole. mbox_only old mid rest ifi is took whole) (λ rest f. f)

pub is_sha1 : (old mid new : List ℕ) (r : Result (List ℕ) Stop) → old ≡ at_sha1 ++ mid → Reads (behind at_sha1 quoted) IsUtf8 Ends old r new
    → Reads identifier_text HoldsAgent Ends old (mapped MboxSha1 r) new
unfolding escaped
is_sha1 old mid new r took =
    made MboxSha1 (behind at_sha1 quoted) identifier_text IsUtf8 HoldsAgent Ends Ends old new r
    (λ own is. (is, refl)) (λ ifi rest is whole. sha1_only old mid rest ifi is took whole) (λ rest f. f)

pub is_openid : (old new : List ℕ) (r : Result (List ℕ) Stop) → Never old at_account → Never old at_mbox → Never old at_sha1 → Reads (behind at_openid quoted) IsUtf8 Ends old r new
    → Reads identifier_text HoldsAgent Ends old (mapped OpenId r) new
unfolding escaped
is_openid old new r a m s =
    made OpenId (behind at_openid quoted) identifier_text IsUtf8 HoldsAgent Ends Ends old new r
    (λ own is. (is, refl)) (λ ifi rest is whole. openid_only old rest ifi is a m s whole) (λ rest f. f)

-- ---- what stands round it

agent_parts : (ifi : Ifi) → enclosed_text (codes "{") ifi ≡ written (identifier_json ifi)
agent_parts (Mbox t) = refl
agent_parts (MboxSha1 t) = refl
agent_parts (OpenId t) = refl
agent_parts (Account h n) = refl

one_agent : (old new : List ℕ) (r : Result Ifi Stop) → Reads (enclosed_text (codes "{")) HoldsAgent Ends old r new
    → Reads (λ ifi. written (value_json (agent_value ifi))) (IsKeptValue agent_value) Ends old (mapped (λ ifi. ifi) r) new
one_agent old new r =
    made (λ ifi. ifi) (enclosed_text (codes "{")) (λ ifi. written (value_json (agent_value ifi))) HoldsAgent (IsKeptValue agent_value) Ends Ends old new r
    (λ ifi is. ((is, tt), sym (agent_parts ifi))) (λ ifi rest is whole. (ifi, is.0, refl)) (λ rest f. f)

pub agent_read : (old new : List ℕ) (r : Result Ifi Stop) → Reads (enclosed_text (codes "{")) HoldsAgent Ends old r new
    → Reads (λ ifi. written (value_json (agent_value ifi))) (IsKeptValue agent_value) Ends old r new
agent_read old new (Ok ifi) reads = one_agent old new (Ok ifi) reads
agent_read old new (Err e) reads = one_agent old new (Err e) reads

-- ---- an agent with a name

abbrev pub at_name : List ℕ
at_name = codes ",\"name\":"

abbrev pub named : Option (List ℕ) → List ℕ
named = optional_text at_name text_value

abbrev pub IsName : Option (List ℕ) → Type 0
IsName o = IfSome o (IsKeptValue text_value)

name_apart : (ifi : Ifi) (rest more : List ℕ) → enclosed_text (codes ",") ifi ++ rest ≡ at_name ++ more → ⊥
unfolding escaped
name_apart (Mbox t) rest more e = differ_at _ _ 2 refl e
name_apart (MboxSha1 t) rest more e = differ_at _ _ 2 refl e
name_apart (OpenId t) rest more e = differ_at _ _ 2 refl e
name_apart (Account h n) rest more e = differ_at _ _ 2 refl e

abbrev pub named_identifier : Option (List ℕ) × Ifi → List ℕ
named_identifier = both_text named (enclosed_text (codes ","))

abbrev pub IsNamed : Option (List ℕ) × Ifi → Type 0
IsNamed = both_stand IsName HoldsAgent

pub name_and_identifier : (old mid new : List ℕ) (r : Result (Option (List ℕ)) Stop) (s : Result Ifi Stop) → ReadsOptional at_name text_value old r mid
    → OnOk r (Reads (enclosed_text (codes ",")) HoldsAgent Ends mid s new) → Reads named_identifier IsNamed Ends old (paired r s) new
name_and_identifier old mid new r s first second =
    two named (enclosed_text (codes ",")) IsName HoldsAgent (MayFollowOptional at_name) Ends old mid new r s first second (λ ifi rest is f. (refl, λ more e. name_apart ifi rest more e))

abbrev pub open_agent : List ℕ
open_agent = codes "{\"objectType\":\"Agent\""

abbrev pub of_parts : Option (List ℕ) × Ifi → Agent
of_parts own = record { ifi = own.1; name = own.0 }

actor_parts : (name : Option (List ℕ)) (ifi : Ifi) → written (agent_json (record { ifi = ifi; name = name })) ≡ open_agent ++ (named name ++ enclosed_text (codes ",") ifi)
unfolding escaped
actor_parts None (Mbox t) = simp append_assoc refl
actor_parts None (MboxSha1 t) = simp append_assoc refl
actor_parts None (OpenId t) = simp append_assoc refl
actor_parts None (Account h n) = simp append_assoc refl
actor_parts (Some t) (Mbox u) = simp append_assoc refl
actor_parts (Some t) (MboxSha1 u) = simp append_assoc refl
actor_parts (Some t) (OpenId u) = simp append_assoc refl
actor_parts (Some t) (Account h n) = simp append_assoc refl

kept_name : (o : Option (List ℕ)) → IsName o → IfSome o IsUtf8
kept_name None is = tt
kept_name (Some t) is = is.0

name_kept : (o : Option (List ℕ)) → IfSome o IsUtf8 → IsName o
name_kept None is = tt
name_kept (Some t) is = (is, tt)

pub actor_read : (old new : List ℕ) (r : Result (Option (List ℕ) × Ifi) Stop) → Reads (behind open_agent named_identifier) IsNamed Ends old r new
    → Reads (λ actor. written (agent_json actor)) HoldsActor Ends old (mapped of_parts r) new
actor_read old new r =
    made of_parts (behind open_agent named_identifier) (λ actor. written (agent_json actor)) IsNamed HoldsActor Ends Ends old new r
    (λ own is. ((is.1, kept_name own.0 is.0), actor_parts own.0 own.1)) (λ actor rest is whole. ((actor.name, actor.ifi), (name_kept actor.name is.1, is.0), refl)) (λ rest f. f)

pub kept_actor : (old new : List ℕ) (r : Result Agent Stop) → Reads (λ actor. written (agent_json actor)) HoldsActor Ends old r new
    → Reads (λ actor. written (value_json (actor_value actor))) (IsKeptValue actor_value) Ends old r new
kept_actor old new (Ok a) reads = record { found = ((reads.found.0, tt), reads.found.1); all = λ b rest is f whole. reads.all b rest is.0 f whole }
kept_actor old new (Err e) reads = record { found = tt; all = λ b rest is f whole. reads.all b rest is.0 f whole }
