-- One stream is answered in one way.
use Rattle.std.proofs.Common.{◌≡◌, ◌≢◌, ◌⊎◌, ℕ, List, [], ◌∷◌, ◌++◌, take, Bool, true, false, Option, Some, None, Result, Ok, Err, subst, sym, ◌∙◌, ap, refl, inl, inr, append-nil}
use Rattle.std.specs.List.{AllByRecursion}
use Rattle.std.specs.Prelude.{is_some, if◌then◌else◌, ◌||◌, ◌==◌, ◌-◌}
use Rattle.lrs_http.proofs.ListLemmas.{one_item}
use Rattle.lrs_http.specs.declared.request.Request.{Request}
use Rattle.lrs_http.specs.declared.request.RequestRefused.{RequestRefused}
use Rattle.lrs_http.specs.declared.request.RequestRefused.TheVariants as request
use Rattle.lrs_http.specs.Links.{GivesNext}
use Rattle.lrs_http.specs.Response.{response_of}
use Rattle.lrs_http.specs.Stream.{Item, IsItem}
use Rattle.lrs_replies.specs.declared.answered.Answered.{Answered}
use Rattle.lrs_replies.specs.declared.reply.Reply.{Reply}
use Rattle.lrs_replies.specs.declared.reply.Trouble.{Trouble}
use Rattle.lrs_replies.specs.declared.reply.Trouble.TheVariants.{Memory, Disk}
use Rattle.lrs_machine.specs.Line.{BeginsWith, Record, entries, in_doubt}
use Rattle.lrs_machine.specs.Acts.{Receipt, TellsEntry, changed, line_behind, made_by, index_where, record_of}
use Rattle.lrs_machine.specs.LrsHistoryHistory.{Answer, answer, with_entry}
use Rattle.lrs_replies.specs.Replies.{Says, body_bytes}
use Rattle.lrs_names.specs.declared.draw.Draw.{Draw}
use Rattle.lrs_record.specs.declared.entry.Caller.{Caller}
use Rattle.lrs_command.specs.declared.command.Command.{Command}
use Rattle.lrs_record.specs.declared.entry.Entry.{Entry}
use Rattle.lrs_routes.specs.declared.asked.Asked.{Asked}
use Rattle.lrs_routes.specs.declared.asked.RouteRefused.{RouteRefused}
use Rattle.lrs_routes.specs.declared.asked.RouteRefused.TheVariants as refused
use Rattle.lrs_routes.specs.declared.asked.Routed.{Routed}
use Rattle.lrs_routes.proofs.Alone.{one_routed, routed_refused}
use Rattle.lrs_hall.specs.declared.talk.Finish.{Finish}
use Rattle.lrs_hall.specs.declared.talk.Finish.TheVariants as finish
use Rattle.lrs_hall.specs.Acts.{ActsNext, Reach}
use Rattle.lrs_hall.specs.Conversation.{ActOn, AnswersTo, AnswersUnread, Worker, Phase, going, ended_with, ServesAsked, ServesRequest, with_command, closes_after, phase_after, Responds, Converses, EndsOpen, SendsResponse}
use Rattle.lrs_hall.specs.Draws.{draw_at, next_draws}
use Rattle.lrs_hall.specs.Laws.{OneAsked, OneText}
use Rattle.lrs_hall.specs.Responses.{FixedResponse, IsFixed, IsFraming, IsReplyText, IsThrough, framing_response, media_text, route_response}
use Rattle.lrs_hall.specs.Serving.{clocks}
use Rattle.lrs_machine.specs.Steps.{one_of}
use Rattle.lrs_machine.proofs.Lines.{entries_append, entries_one}
use Rattle.lrs_hall.proofs.Lines.{entries_take}
use Rattle.lrs_hall.proofs.Unread.{any_command, as_asked}

-- ---- what was heard

abbrev pub Known : List ℕ → Result Request RequestRefused → Option (List ℕ) → Type 0
Known stream (Ok q) after = (rest : List ℕ) × IsItem stream (Ok (q, rest)) × (after ≡ Some rest)
Known stream (Err e) after = IsItem stream (Err e)

pub known : {X : Type 0} (acts : ActOn X) (stream : List ℕ) (heard : Result Request RequestRefused) (after : Option (List ℕ)) (closes : Bool) (r : Receipt) (text : List ℕ) (old new : Worker X)
    → GivesNext (Some stream) heard after → ServesRequest acts closes heard r text old new → r.status ≢ 503 → Known stream heard after
known acts stream (Ok q) after closes r text old new next answers calm = next
known acts stream (Err request.LinkFault) after closes r text old new next answers calm = absurd answers.0
known acts stream (Err request.Memory) after closes r text old new next answers calm = absurd (calm (ap (λ (a : Receipt). a.status) answers.0.0))
known acts stream (Err e) after closes r text old new next answers calm = next

after_free : (most : ℕ) (e : RequestRefused) (a b : Option (List ℕ)) → phase_after most (Err e) a ≡ phase_after most (Err e) b
after_free most request.Memory a b = refl
after_free most e a b = refl

pub same_heard : (stream : List ℕ) (most : ℕ) (x y : Result Request RequestRefused) (a b : Option (List ℕ)) → Known stream x a → Known stream y b → (x ≡ y) × (phase_after most x a ≡ phase_after most y b)
same_heard stream most (Ok q) (Ok p) a b k l =
    let e : ◌≡◌ {A = Item} (Ok (q, k.0)) (Ok (p, l.0)) = one_item stream (Ok (q, k.0)) (Ok (p, l.0)) k.1 l.1 in
    let pair : ◌≡◌ {A = Request × List ℕ} (q, k.0) (p, l.0) = cc e in (
      ap (λ (z : Request × List ℕ). Ok z.0) pair,
      ap (phase_after most (Ok q)) k.2 ∙ ap (λ (z : Request × List ℕ). phase_after most (Ok z.0) (Some z.1)) pair ∙ ap (phase_after most (Ok p)) (sym l.2),
    )
same_heard stream most (Ok q) (Err f) a b k l =
    let e : ◌≡◌ {A = Item} (Ok (q, k.0)) (Err f) = one_item stream (Ok (q, k.0)) (Err f) k.1 l in
    let no : ⊥ = cc e in
    absurd no
same_heard stream most (Err e) (Ok p) a b k l =
    let e : ◌≡◌ {A = Item} (Ok (p, l.0)) (Err e) = one_item stream (Ok (p, l.0)) (Err e) l.1 k in
    let no : ⊥ = cc e in
    absurd no
same_heard stream most (Err e) (Err f) a b k l =
    let both : ◌≡◌ {A = Item} (Err e) (Err f) = one_item stream (Err e) (Err f) k l in
    let same : e ≡ f = cc both in
    (ap (λ (z : RequestRefused). Err z) same, ap (λ (z : RequestRefused). phase_after most (Err z) a) same ∙ after_free most f a b)

-- ---- what was said

said_ok : (said : Result Answered Trouble) (reply : Reply) → Says said reply → reply.status ≢ 503 → (s : Answered) × (said ≡ Ok s)
said_ok (Ok s) reply says calm = (s, refl)
said_ok (Err Memory) reply says calm = absurd (calm says.0)
said_ok (Err Disk) reply says calm = absurd (calm says.0)

-- What an act says that had no trouble, and how the history comes out of it.
abbrev pub Said : ℕ → List Entry → Caller → Command → ℕ → Draw → Reply → List Entry → Type 0
Said limit g caller command clock draw reply next =
    Says (Ok (answer limit g caller command clock draw).said) reply × (next ≡ with_entry g (answer limit g caller command clock draw).entry)

with_one : (h : List Entry) (o : Option Entry) → h ++ one_of o ≡ with_entry h o
with_one h None = append-nil h
with_one h (Some e) = refl

made_where : (o : Option Entry) (n : ℕ) → (if is_some (index_where (is_some o) n) then o else None) ≡ o
made_where None n = refl
made_where (Some e) n = refl

none_where : (o : Option Entry) (own landed : Option ℕ) (n : ℕ) → own ≡ index_where (is_some o) n → (is_some own || is_some landed) ≡ false → o ≡ None
none_where None own landed n told is = refl
none_where (Some e) own landed n told is =
    let both : true ≡ false = sym (ap (λ (w : Option ℕ). is_some w || is_some landed) told) ∙ is in
    let no : ⊥ = cc both in
    absurd no

entries_behind : (line : List Record) (a : Answer) (receipt : Receipt) (n : ℕ) → receipt.entry ≡ index_where (is_some a.entry) n → entries (line_behind line a receipt) ≡ with_entry (entries line) a.entry
entries_behind line a receipt n own = by_change (changed receipt) refl
  where
    by_change : (b : Bool) → changed receipt ≡ b → entries (if b then line ++ record_of (made_by a receipt) receipt ∷ [] else line) ≡ with_entry (entries line) a.entry
    by_change true is =
        entries_append line (record_of (made_by a receipt) receipt ∷ []) ∙ ap (λ (l : List Entry). entries line ++ l) (entries_one (record_of (made_by a receipt) receipt))
        ∙ ap (λ (o : Option Entry). entries line ++ one_of o) (ap (λ (o : Option ℕ). if is_some o then a.entry else None) own ∙ made_where a.entry n) ∙ with_one (entries line) a.entry
    by_change false is = ap (λ (o : Option Entry). with_entry (entries line) o) (sym (none_where a.entry receipt.entry receipt.landed n own is))

pub act_says : (limit : ℕ) (line : List Record) (g : List Entry) (caller : Caller) (command : Command) (draw : Draw) (reply : Reply) (r : Receipt) (old new : Reach)
    → ActsNext limit line caller command draw reply r old new → entries (take old.records line) ≡ g → r.status ≢ 503
    → Said limit g caller command r.clock draw reply (entries (take new.records line))
act_says limit line g caller command draw reply r old new next at calm =
    let act = next.on in
    let ok = said_ok act.said reply act.says (λ e. calm (act.status ∙ e)) in
    let here : entries (take act.at line) ≡ g = ap (λ (n : ℕ). entries (take n line)) next.next ∙ at in
    let at_point : take r.point (entries line) ≡ g = ap (λ (n : ℕ). take n (entries line)) act.acts.point ∙ sym (entries_take line act.at) ∙ here in
    let mine : Answer = answer limit (take r.point (entries line)) caller command r.clock draw in
    let tells : TellsEntry mine r.point (in_doubt (take act.at line)) (in_doubt (take new.records line)) r.entry (Ok ok.0) =
    subst (λ (s : Result Answered Trouble). TellsEntry mine r.point (in_doubt (take act.at line)) (in_doubt (take new.records line)) r.entry s) ok.1 act.acts.tells in
    let behind : entries (take new.records line) ≡ with_entry g mine.entry =
    ap entries act.acts.line ∙ entries_behind (take act.at line) mine r r.point tells.1 ∙ ap (λ (h : List Entry). with_entry h mine.entry) here in
    subst (λ (h : List Entry). Said limit h caller command r.clock draw reply (entries (take new.records line))) at_point
    (subst (λ (s : Answered). Says (Ok s) reply) tells.0 (subst (λ (s : Result Answered Trouble). Says s reply) ok.1 act.says), behind ∙ ap (λ (h : List Entry). with_entry h mine.entry) (sym at_point))

same_reply : (p q : Reply) → p.status ≡ q.status → p.media ≡ q.media → p.body ≡ q.body → p.through ≡ q.through → p ≡ q
same_reply p q a b c d = λ i. record { status = a i; media = b i; body = c i; through = d i }

pub one_reply : (s : Answered) (p q : Reply) → Says (Ok s) p → Says (Ok s) q → p ≡ q
one_reply s p q x y = same_reply p q (x.0 ∙ sym y.0) (x.1 ∙ sym y.1) (x.2 ∙ sym y.2) (x.3 ∙ sym y.3)

one_through : OneText → (o : Option ℕ) (x y : Option (List ℕ)) → IsThrough o x → IsThrough o y → x ≡ y
one_through one_text None None None a b = refl
one_through one_text None None (Some y) a b = absurd b
one_through one_text None (Some x) y a b = absurd a
one_through one_text (Some m) None y a b = absurd a
one_through one_text (Some m) (Some x) None a b = absurd b
one_through one_text (Some m) (Some x) (Some y) a b = ap Some (one_text m x y a b)

one_reply_text : OneText → (p q : Reply) (closes : Bool) (t u : List ℕ) → p ≡ q → IsReplyText p closes t → IsReplyText q closes u → t ≡ u
one_reply_text one_text p q closes t u same x y =
    let z : IsReplyText q closes t = subst (λ r. IsReplyText r closes t) same x in
    z.2 ∙ ap (λ o. response_of q.status (media_text q.media) (body_bytes q.body) o [] closes) (one_through one_text q.through z.0 y.0 z.1 y.1) ∙ sym y.2

-- ---- one response of each

-- both went on alike, to one history
pub record Alike (la lb : List Record) (r s : Receipt) (t u : List ℕ) (new_a new_b : Worker Reach) : Type 0 where
  pub text : t ≡ u
  pub acted : r.acted ≡ s.acted
  pub draws : new_a.draws ≡ new_b.draws
  pub at : entries (take new_a.reached.records la) ≡ entries (take new_b.reached.records lb)

-- both stand at one history
pub record Together (la lb : List Record) (a b : Worker Reach) : Type 0 where
  pub draws : a.draws ≡ b.draws
  pub at : entries (take a.reached.records la) ≡ entries (take b.reached.records lb)

fixed_alike : (la lb : List Record) (f : FixedResponse) (closes : Bool) (r s : Receipt) (t u : List ℕ) (a b new_a new_b : Worker Reach)
    → Together la lb a b → IsFixed f closes r t → IsFixed f closes s u → new_a ≡ a → new_b ≡ b → Alike la lb r s t u new_a new_b
fixed_alike la lb f closes r s t u a b new_a new_b so x y same_a same_b = record {
  text = x.1 ∙ sym y.1;
  acted = ap (λ (z : Receipt). z.acted) x.0 ∙ sym (ap (λ (z : Receipt). z.acted) y.0);
  draws = ap (λ (w : Worker Reach). w.draws) same_a ∙ so.draws ∙ sym (ap (λ (w : Worker Reach). w.draws) same_b);
  at = ap (λ (w : Worker Reach). entries (take w.reached.records la)) same_a ∙ so.at ∙ sym (ap (λ (w : Worker Reach). entries (take w.reached.records lb)) same_b);
}

framed_alike : (la lb : List Record) (f : Option FixedResponse) (r s : Receipt) (t u : List ℕ) (a b new_a new_b : Worker Reach)
    → Together la lb a b → IsFraming f r t → IsFraming f s u → new_a ≡ a → new_b ≡ b → Alike la lb r s t u new_a new_b
framed_alike la lb None r s t u a b new_a new_b so x y same_a same_b = absurd x
framed_alike la lb (Some f) r s t u a b new_a new_b so x y same_a same_b = fixed_alike la lb f true r s t u a b new_a new_b so x y same_a same_b

served_alike : OneText → (limit : ℕ) (la lb : List Record) (closes : Bool) (asked : Result Asked RouteRefused) (r s : Receipt) (t u : List ℕ) (a b new_a new_b : Worker Reach)
    → Together la lb a b → ServesAsked (ActsNext limit la) closes asked r t a new_a → ServesAsked (ActsNext limit lb) closes asked s u b new_b → r.status ≢ 503 → s.status ≢ 503
    → (r.acted ≡ true → s.acted ≡ true → r.clock ≡ s.clock) → Alike la lb r s t u new_a new_b
served_alike one_text limit la lb closes (Err e) r s t u a b new_a new_b so x y calm quiet clock = fixed_alike la lb (route_response e) closes r s t u a b new_a new_b so x.0 y.0 x.1 y.1
served_alike one_text limit la lb closes (Ok asked) r s t u a b new_a new_b so x y calm quiet clock =
    let g : List Entry = entries (take b.reached.records lb) in
    let says_a = act_says limit la g asked.caller asked.command (draw_at a.draws) x.0 r a.reached new_a.reached x.1 so.at calm in
    let says_b = act_says limit lb g asked.caller asked.command (draw_at b.draws) y.0 s b.reached new_b.reached y.1 refl quiet in
    let time : r.clock ≡ s.clock = clock x.1.on.acts.acted y.1.on.acts.acted in
    let Q : ℕ → Draw → Type 0 = λ k d. Said limit g asked.caller asked.command k d y.0 (entries (take new_b.reached.records lb)) in
    let mine : Q r.clock (draw_at a.draws) = subst (λ k. Q k (draw_at a.draws)) (sym time) (subst (λ d. Q s.clock (draw_at d)) (sym so.draws) says_b) in
    let answered : Answer = answer limit g asked.caller asked.command r.clock (draw_at a.draws) in
    record {
      text = one_reply_text one_text x.0 y.0 closes t u (one_reply answered.said x.0 y.0 says_a.0 mine.0) x.3 y.3;
      acted = x.1.on.acts.acted ∙ sym y.1.on.acts.acted;
      draws = x.2 ∙ ap next_draws so.draws ∙ sym y.2;
      at = says_a.1 ∙ sym mine.1;
    }

-- out of memory is answered 503
memory_calm : (acts : ActOn Reach) (closes : Bool) (asked : Result Asked RouteRefused) (r : Receipt) (t : List ℕ) (a new_a : Worker Reach) → ServesAsked acts closes asked r t a new_a → r.status ≢ 503 → asked ≡ Err refused.Memory → ⊥
memory_calm acts closes asked r t a new_a serves calm is =
    let wanting : ServesAsked acts closes (Err refused.Memory) r t a new_a = subst (λ z. ServesAsked acts closes z r t a new_a) is serves in
    calm (ap (λ (z : Receipt). z.status) wanting.0.0)

asked_alike : OneAsked → OneText → (limit : ℕ) (la lb : List Record) (closes : Bool) (q : Request) (r s : Receipt) (t u : List ℕ) (a b new_a new_b : Worker Reach)
    → Together la lb a b → AnswersTo (ActsNext limit la) closes q r t a new_a → AnswersTo (ActsNext limit lb) closes q s u b new_b → r.status ≢ 503 → s.status ≢ 503
    → (r.acted ≡ true → s.acted ≡ true → r.clock ≡ s.clock) → Alike la lb r s t u new_a new_b
asked_alike one_asked one_text limit la lb closes q r s t u a b new_a new_b so x y calm quiet clock = elim (one_asked q x.0 y.0 x.1 y.1) [
  | inl same ↦ served_alike one_text limit la lb closes y.0 r s t u a b new_a new_b so (subst (λ z. ServesAsked (ActsNext limit la) closes z r t a new_a) same x.2) y.2 calm quiet clock
  | inr wanting ↦ elim wanting [
    | inl mine ↦ absurd (memory_calm (ActsNext limit la) closes x.0 r t a new_a x.2 calm mine)
    | inr other ↦ absurd (memory_calm (ActsNext limit lb) closes y.0 s u b new_b y.2 quiet other)
  ]
]

-- what one worker reads and answers, another answers unread as that
read_by_other : (own acts : ActOn Reach) (closes : Bool) (q : Request) (r s : Receipt) (t u : List ℕ) (a b new_a new_b : Worker Reach)
    → AnswersTo own closes q r t a new_a → r.status ≢ 503 → AnswersUnread acts closes q s u b new_b → AnswersTo acts closes q s u b new_b
read_by_other own acts closes q r s t u a b new_a new_b (Ok asked, is, serves) calm unread = as_asked acts closes q asked s u b new_b is (inr unread)
read_by_other own acts closes q r s t u a b new_a new_b (Err e, is, serves) calm unread =
    absurd (memory_calm own closes (Err e) r t a new_a serves calm (ap (λ (x : RouteRefused). Err x) (routed_refused q unread.0 e unread.1 is)))

unread_alike : OneText → (limit : ℕ) (la lb : List Record) (closes : Bool) (q : Request) (r s : Receipt) (t u : List ℕ) (a b new_a new_b : Worker Reach)
    → Together la lb a b → AnswersUnread (ActsNext limit la) closes q r t a new_a → AnswersUnread (ActsNext limit lb) closes q s u b new_b → r.status ≢ 503 → s.status ≢ 503
    → (r.acted ≡ true → s.acted ≡ true → r.clock ≡ s.clock) → Alike la lb r s t u new_a new_b
unread_alike one_text limit la lb closes q r s t u a b new_a new_b so x y calm quiet clock =
    let same : x.0 ≡ y.0 = one_routed q x.0 y.0 x.1 y.1 in
    let mine = subst (λ (routed : Routed). ServesAsked (ActsNext limit la) closes (Ok (with_command routed (any_command routed))) r t a new_a) same (x.2 (any_command x.0) refl) in
    served_alike one_text limit la lb closes (Ok (with_command y.0 (any_command y.0))) r s t u a b new_a new_b so mine (y.2 (any_command y.0) refl) calm quiet clock

answered_alike : OneAsked → OneText → (limit : ℕ) (la lb : List Record) (closes : Bool) (heard : Result Request RequestRefused) (r s : Receipt) (t u : List ℕ) (a b new_a new_b : Worker Reach)
    → Together la lb a b → ServesRequest (ActsNext limit la) closes heard r t a new_a → ServesRequest (ActsNext limit lb) closes heard s u b new_b → r.status ≢ 503 → s.status ≢ 503
    → (r.acted ≡ true → s.acted ≡ true → r.clock ≡ s.clock) → Alike la lb r s t u new_a new_b
answered_alike one_asked one_text limit la lb closes (Ok q) r s t u a b new_a new_b so (inl x) (inl y) calm quiet clock =
    asked_alike one_asked one_text limit la lb closes q r s t u a b new_a new_b so x y calm quiet clock
answered_alike one_asked one_text limit la lb closes (Ok q) r s t u a b new_a new_b so (inl x) (inr y) calm quiet clock =
    let theirs = read_by_other (ActsNext limit la) (ActsNext limit lb) closes q r s t u a b new_a new_b x calm y in
    asked_alike one_asked one_text limit la lb closes q r s t u a b new_a new_b so x theirs calm quiet clock
answered_alike one_asked one_text limit la lb closes (Ok q) r s t u a b new_a new_b so (inr x) (inl y) calm quiet clock =
    let mine = read_by_other (ActsNext limit lb) (ActsNext limit la) closes q s r u t b a new_b new_a y quiet x in
    asked_alike one_asked one_text limit la lb closes q r s t u a b new_a new_b so mine y calm quiet clock
answered_alike one_asked one_text limit la lb closes (Ok q) r s t u a b new_a new_b so (inr x) (inr y) calm quiet clock =
    unread_alike one_text limit la lb closes q r s t u a b new_a new_b so x y calm quiet clock
answered_alike one_asked one_text limit la lb closes (Err e) r s t u a b new_a new_b so x y calm quiet clock = framed_alike la lb (framing_response e) r s t u a b new_a new_b so x.0 y.0 x.1 y.1

-- ---- the phases

-- what is left of the stream is told
abbrev pub IsKnown : Phase → Type 0
IsKnown (going most None) = ⊥
IsKnown (going most (Some stream)) = Unit {0}
IsKnown (ended_with f) = Unit {0}

closed_or : (closes : Bool) (most : ℕ) (after : Option (List ℕ)) (rest : List ℕ) → after ≡ Some rest → IsKnown (if closes then ended_with finish.Closed else going most after)
closed_or true most after rest is = tt
closed_or false most after rest is = subst (λ o. IsKnown (going most o)) (sym is) tt

known_behind : (stream : List ℕ) (most : ℕ) (heard : Result Request RequestRefused) (after : Option (List ℕ)) → Known stream heard after → IsKnown (phase_after most heard after)
known_behind stream most (Ok q) after k = closed_or (q.closes || most == 1) (most - 1) after k.0 k.2
known_behind stream most (Err request.Memory) after k = tt
known_behind stream most (Err e) after k = tt

cut_off : {X : Type 0} (acts : ActOn X) (rs : List Receipt) (out : List ℕ) (f : Finish) (old new : Worker X) → Converses acts (ended_with finish.LinkFault) rs out f old new → f ≡ finish.LinkFault
cut_off acts [] out f old new talks = talks.1
cut_off acts (r ∷ rs) out f old new talks = absurd talks.5

pub went_whole : {X : Type 0} (acts : ActOn X) (text front : List ℕ) (due phase : Phase) (rs : List Receipt) (out : List ℕ) (f : Finish) (old new : Worker X)
    → SendsResponse text due front phase → Converses acts phase rs out f old new → f ≢ finish.LinkFault → (front ≡ text) × (phase ≡ due)
went_whole acts text front due phase rs out f old new (inl whole) talks smooth = whole
went_whole acts text front due phase rs out f old new (inr cut) talks smooth =
    absurd (smooth (cut_off acts rs out f old new (subst (λ p. Converses acts p rs out f old new) cut.1 talks)))

-- ---- the clock

clocks_step : (x y : Bool) (c d : ℕ) (xs ys readings : List ℕ) → BeginsWith ((if x then c ∷ [] else []) ++ xs) readings → BeginsWith ((if y then d ∷ [] else []) ++ ys) readings
    → (x ≡ true → y ≡ true → c ≡ d) × (x ≡ y → (later : List ℕ) × BeginsWith xs later × BeginsWith ys later)
clocks_step true true c d xs ys readings a b =
    let both : c ∷ (xs ++ a.0) ≡ d ∷ (ys ++ b.0) = a.1 ∙ sym b.1 in
    let first : c ≡ d = cc both in
    let rest : xs ++ a.0 ≡ ys ++ b.0 = cc both in
    (λ p q. first, λ same. (xs ++ a.0, (a.0, refl), (b.0, sym rest)))
clocks_step false false c d xs ys readings a b = (
  λ p q.
      let no : ⊥ = cc p in
      absurd no,
  λ same. (readings, a, b),
)
clocks_step true false c d xs ys readings a b = (
  λ p q.
      let no : ⊥ = cc q in
      absurd no,
  λ same.
      let no : ⊥ = cc same in
      absurd no,
)
clocks_step false true c d xs ys readings a b = (
  λ p q.
      let no : ⊥ = cc p in
      absurd no,
  λ same.
      let no : ⊥ = cc same in
      absurd no,
)

-- ---- the ends

-- a talk that ended though memory lasted and the link didn't fail
abbrev pub IsCalm : Finish → Type 0
IsCalm f = (f ≢ finish.Memory) × (f ≢ finish.LinkFault)

-- the item at which it ended
pub end_item : (stream : List ℕ) (f : Finish) → EndsOpen (Some stream) f → IsCalm f → (IsItem stream (Err request.End) × (f ≡ finish.Ended)) ⊎ (IsItem stream (Err request.Cut) × (f ≡ finish.Cut))
end_item stream finish.Ended ends calm = inl (ends, refl)
end_item stream finish.Cut ends calm = inr (ends, refl)
end_item stream finish.Closed ends calm = absurd ends
end_item stream finish.LinkFault ends calm = absurd (calm.1 refl)
end_item stream finish.Memory ends calm = absurd (calm.0 refl)

ends_alike : (stream : List ℕ) (f k : Finish) → EndsOpen (Some stream) f → EndsOpen (Some stream) k → IsCalm f → IsCalm k → f ≡ k
ends_alike stream f k x y calm quiet = elim (end_item stream f x calm) [
  | inl a ↦ elim (end_item stream k y quiet) [
    | inl b ↦ a.1 ∙ sym b.1
    | inr b ↦
        let e : ◌≡◌ {A = Item} (Err request.End) (Err request.Cut) = one_item stream (Err request.End) (Err request.Cut) a.0 b.0 in
        let no : ⊥ = cc e in
        absurd no
  ]
  | inr a ↦ elim (end_item stream k y quiet) [
    | inl b ↦
        let e : ◌≡◌ {A = Item} (Err request.Cut) (Err request.End) = one_item stream (Err request.Cut) (Err request.End) a.0 b.0 in
        let no : ⊥ = cc e in
        absurd no
    | inr b ↦ a.1 ∙ sym b.1
  ]
]

heard_end : (stream : List ℕ) (heard : Result Request RequestRefused) (after : Option (List ℕ)) (e : RequestRefused) → Known stream heard after → IsItem stream (Err e) → heard ≡ Err e
heard_end stream (Ok q) after e k item =
    let both : ◌≡◌ {A = Item} (Ok (q, k.0)) (Err e) = one_item stream (Ok (q, k.0)) (Err e) k.1 item in
    let no : ⊥ = cc both in
    absurd no
heard_end stream (Err d) after e k item =
    let both : ◌≡◌ {A = Item} (Err d) (Err e) = one_item stream (Err d) (Err e) k item in
    let same : d ≡ e = cc both in
    ap (λ (z : RequestRefused). Err z) same

end_unanswered : (acts : ActOn Reach) (closes : Bool) (e : RequestRefused) (r : Receipt) (text : List ℕ) (old new : Worker Reach) → ServesRequest acts closes (Err e) r text old new → framing_response e ≡ None → ⊥
end_unanswered acts closes e r text old new answers none = subst (λ f. IsFraming f r text) none answers.0

-- where the stream ends, there is no response
unanswered : (acts : ActOn Reach) (stream : List ℕ) (most : ℕ) (f : Finish) (r : Receipt) (front : List ℕ) (old new : Worker Reach) (phase : Phase)
    → EndsOpen (Some stream) f → IsCalm f → Responds acts most (Some stream) r front old new phase → r.status ≢ 503 → ⊥
unanswered acts stream most f r front old new phase ends calm responds quiet =
    let k = known acts stream responds.heard responds.after (closes_after most responds.heard) r responds.text old new responds.next responds.answered quiet in
    elim (end_item stream f ends calm) [
      | inl a ↦ end_unanswered acts (closes_after most responds.heard) request.End r responds.text old new
          (subst (λ h. ServesRequest acts (closes_after most responds.heard) h r responds.text old new) (heard_end stream responds.heard responds.after request.End k a.0) responds.answered) refl
      | inr a ↦ end_unanswered acts (closes_after most responds.heard) request.Cut r responds.text old new
          (subst (λ h. ServesRequest acts (closes_after most responds.heard) h r responds.text old new) (heard_end stream responds.heard responds.after request.Cut k a.0) responds.answered) refl
    ]

-- ---- whole talks

abbrev pub AreCalm : List Receipt → Type 0
AreCalm receipts = AllByRecursion (λ (receipt : Receipt). receipt.status ≢ 503) receipts

pub agree : OneAsked → OneText → (limit : ℕ) (la lb : List Record) (phase : Phase) (xs ys : List Receipt) (out_x out_y : List ℕ) (f k : Finish) (a b end_a end_b : Worker Reach) (readings : List ℕ)
    → Together la lb a b → IsKnown phase → BeginsWith (clocks xs) readings → BeginsWith (clocks ys) readings
    → Converses (ActsNext limit la) phase xs out_x f a end_a → Converses (ActsNext limit lb) phase ys out_y k b end_b
    → AreCalm xs → AreCalm ys → IsCalm f → IsCalm k → (out_x ≡ out_y) × (f ≡ k)
agree one_asked one_text limit la lb (going most None) xs ys out_x out_y f k a b end_a end_b readings so told fx fy x y cx cy calm quiet = absurd told
agree one_asked one_text limit la lb (ended_with h) [] [] out_x out_y f k a b end_a end_b readings so told fx fy x y cx cy calm quiet = (x.0 ∙ sym y.0, x.1 ∙ sym y.1)
agree one_asked one_text limit la lb (ended_with h) (r ∷ rs) ys out_x out_y f k a b end_a end_b readings so told fx fy x y cx cy calm quiet = absurd x.5
agree one_asked one_text limit la lb (ended_with h) [] (s ∷ ss) out_x out_y f k a b end_a end_b readings so told fx fy x y cx cy calm quiet = absurd y.5
agree one_asked one_text limit la lb (going most (Some stream)) [] [] out_x out_y f k a b end_a end_b readings so told fx fy x y cx cy calm quiet =
    (x.0 ∙ sym y.0, ends_alike stream f k x.1 y.1 calm quiet)
agree one_asked one_text limit la lb (going most (Some stream)) [] (s ∷ ss) out_x out_y f k a b end_a end_b readings so told fx fy x y cx cy calm quiet =
    absurd (unanswered (ActsNext limit lb) stream most f s y.0 b y.3 y.2 x.1 calm y.5 cy.0)
agree one_asked one_text limit la lb (going most (Some stream)) (r ∷ rs) [] out_x out_y f k a b end_a end_b readings so told fx fy x y cx cy calm quiet =
    absurd (unanswered (ActsNext limit la) stream most k r x.0 a x.3 x.2 y.1 quiet x.5 cx.0)
agree one_asked one_text limit la lb (going most (Some stream)) (r ∷ rs) (s ∷ ss) out_x out_y f k a b end_a end_b readings so told fx fy x y cx cy calm quiet =
    let p = x.5 in
    let q = y.5 in
    let known_x = known (ActsNext limit la) stream p.heard p.after (closes_after most p.heard) r p.text a x.3 p.next p.answered cx.0 in
    let known_y = known (ActsNext limit lb) stream q.heard q.after (closes_after most q.heard) s q.text b y.3 q.next q.answered cy.0 in
    let same = same_heard stream most p.heard q.heard p.after q.after known_x known_y in
    let clock = clocks_step r.acted s.acted r.clock s.clock (clocks rs) (clocks ss) readings fx fy in
    let alike = answered_alike one_asked one_text limit la lb (closes_after most q.heard) q.heard r s p.text q.text a b x.3 y.3 so
    (subst (λ h. ServesRequest (ActsNext limit la) (closes_after most h) h r p.text a x.3) same.0 p.answered) q.answered cx.0 cy.0 clock.0 in
    let whole_x = went_whole (ActsNext limit la) p.text x.0 (phase_after most p.heard p.after) x.2 rs x.1 f x.3 end_a p.sent x.6 calm.1 in
    let whole_y = went_whole (ActsNext limit lb) q.text y.0 (phase_after most q.heard q.after) y.2 ss y.1 k y.3 end_b q.sent y.6 quiet.1 in
    let fronts = clock.1 alike.acted in
    let so_on : Together la lb x.3 y.3 = record { draws = alike.draws; at = alike.at } in
    let more = agree one_asked one_text limit la lb (phase_after most q.heard q.after) rs ss x.1 y.1 f k x.3 y.3 end_a end_b fronts.0 so_on
    (known_behind stream most q.heard q.after known_y) fronts.1 fronts.2
    (subst (λ z. Converses (ActsNext limit la) z rs x.1 f x.3 end_a) (whole_x.1 ∙ same.1) x.6)
    (subst (λ z. Converses (ActsNext limit lb) z ss y.1 k y.3 end_b) whole_y.1 y.6)
    cx.1 cy.1 calm quiet in
    (x.4 ∙ ap (λ l. l ++ x.1) (whole_x.0 ∙ alike.text ∙ sym whole_y.0) ∙ ap (λ l. y.0 ++ l) more.0 ∙ sym y.4, more.1)
