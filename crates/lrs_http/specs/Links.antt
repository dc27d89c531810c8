-- What a call reads of a link and writes to it.
use Rattle.std.specs.Prelude.{◌≡◌, ◌≤◌, ℕ, List, ◌++◌, Option, Some, option_map, IfSome, Result, Ok, Err, ⊤, Bool, true}
use Rattle.std.specs.Prelude.{false, length}
use Rattle.lrs_disk.specs.Faults.{Rises}
use Rattle.lrs_http.specs.declared.request.Request.{Request}
use Rattle.lrs_http.specs.declared.request.RequestRefused.{RequestRefused}
use Rattle.lrs_http.specs.declared.request.RequestRefused.TheVariants as refused
use Rattle.lrs_http.specs.Stream.{IsItem}

-- what is left of a connection's stream: what is kept of it, and what the link has left, if that is told
abbrev pub stream_left : List ℕ → Option (List ℕ) → Option (List ℕ)
stream_left kept left = option_map (λ bytes. kept ++ bytes) left

-- at most so many bytes were taken off what a link has left, if it tells that
abbrev pub TakesOff : ℕ → Option (List ℕ) → Option (List ℕ) → Type 0
TakesOff most before after =
    (rest : List ℕ) → after ≡ Some rest → (front : List ℕ) × (length front ≤ most) × (before ≡ Some (front ++ rest))

-- why no request is given: running out of memory is free
abbrev pub GivesRefusal : Option (List ℕ) → RequestRefused → Type 0
GivesRefusal before refused.LinkFault = ⊤
GivesRefusal before refused.Memory = ⊤
GivesRefusal before refusal = IfSome before (λ stream. IsItem stream (Err refusal))

-- the next item of the stream is given, and after a request the rest is left
abbrev pub GivesNext : Option (List ℕ) → Result Request RequestRefused → Option (List ℕ) → Type 0
GivesNext before (Ok request) after =
    IfSome before (λ stream. (rest : List ℕ) × IsItem stream (Ok (request, rest)) × (after ≡ Some rest))
GivesNext before (Err refusal) after = GivesRefusal before refusal

-- a fault is answered only if the count rose, and any other answer leaves it as it was
abbrev pub IsCause : ℕ → ℕ → RequestRefused → Type 0
IsCause before now refused.LinkFault = Rises before now × (before ≤ now)
IsCause before now refusal = now ≡ before

abbrev pub HasLinkCause : {T : Type 0} → ℕ → ℕ → Result T RequestRefused → Type 0
HasLinkCause before now (Ok value) = now ≡ before
HasLinkCause before now (Err refusal) = IsCause before now refusal

-- the same of a response
abbrev pub HasWriteCause : {T E : Type 0} → ℕ → ℕ → Result T E → Type 0
HasWriteCause before now (Ok value) = now ≡ before
HasWriteCause before now (Err fault) = Rises before now × (before ≤ now)

-- the first part of the text went out, and this rest not yet
abbrev pub Sends : List ℕ → List ℕ → Option (List ℕ) → Option (List ℕ) → Type 0
Sends text rest before now =
    (front : List ℕ) × (front ++ rest ≡ text) × (now ≡ option_map (λ taken. taken ++ front) before)

-- the first part of the text went out
abbrev pub SendsPart : List ℕ → Option (List ℕ) → Option (List ℕ) → Type 0
SendsPart text before now = (rest : List ℕ) × Sends text rest before now

-- what a link tells
pub record LinkView : Type 0 where
  pub taken : Option (List ℕ)
  pub left : Option (List ℕ)
  pub stream : Option (List ℕ)
  pub name : ℕ
  pub faults : ℕ

abbrev pub view : Option (List ℕ) → Option (List ℕ) → Option (List ℕ) → ℕ → ℕ → LinkView
view taken left stream name faults =
    record { taken = taken; left = left; stream = stream; name = name; faults = faults }

-- since the start a text was written, the end of which waits; or the link failed
pub record IsWritten (text waiting : List ℕ) (failed : Bool) (start now : LinkView) : Type 0 where
  pub left : now.left ≡ start.left
  pub stream : now.stream ≡ start.stream
  pub name : now.name ≡ start.name
  pub whole : failed ≡ false → Sends text waiting start.taken now.taken × (now.faults ≡ start.faults)
  pub part : failed ≡ true → SendsPart text start.taken now.taken × Rises start.faults now.faults
      × (start.faults ≤ now.faults)
