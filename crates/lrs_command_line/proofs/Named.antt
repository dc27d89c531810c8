-- The command that words name is the one that is read.
use Rattle.std.proofs.Common.{◌≡◌, ◌||◌, ◌∙◌, ℕ, Bool, true, false, cond, List, [], ◌∷◌, Option, Some, None, Result, Ok, Err, IfOk, MatchOption, refl, sym, ap, subst, codes, inl, inr}
use Rattle.std.specs.Str.{bytes_eq}
use Rattle.std.specs.Prelude.{option_and_then}
use Rattle.clap.specs.Walk.{Row, Text}
use Rattle.clap.specs.Simple.{subcommand_of}
use Rattle.clap.specs.Faults.{fault_of}
use Rattle.lrs_json.specs.Names.{is_among}
use Rattle.lrs_command_line.specs.CommandLine.{Part, CommandLine, init, intake, serve, load, migrate, IsLineOf, IsPlain, IsNamed, IsCommandLine, IsTaken, ArePartsOf, Gives, words_of, value_of, is_no_option, options_of, program, whole_line}
use Rattle.lrs_command_line.specs.Shapes.{IsReadAs, Denotes, is_plain, alone, value_behind, said_by, init_with, intake_with, serve_with, load_with, migrate_with, init_in, intake_in, serve_in, load_in, migrate_in, command_in, is_faulty, is_nonempty, taken, named}
use Rattle.lrs_command_line.specs.declared.words.ProgramCommand.{ProgramCommand}
use Rattle.lrs_command_line.proofs.Plain.{AreOptions, same, plain_line, parts_of, alone_of, value_found}

-- ---- the options of a command begin with `-`

and_more : (x : List ℕ) (xs : List (List ℕ)) → is_no_option x ≡ false → AreOptions xs → AreOptions (x ∷ xs)
and_more x xs dash are name e = by (bytes_eq name x) refl e where
  by : (b : Bool) → bytes_eq name x ≡ b → (b || is_among name xs) ≡ true → is_no_option name ≡ false
  by true is e = ap is_no_option (same name x is) ∙ dash
  by false is e = are name e

no_more : AreOptions []
no_more name e = cc

options_are : (words : List (List ℕ)) → AreOptions (options_of words)
options_are [] = no_more
options_are (name ∷ words) = by (bytes_eq name (codes "init")) (bytes_eq name (codes "serve")) (bytes_eq name (codes "migrate")) where
  by : (a b c : Bool)
      → AreOptions (cond a (codes "--admin" ∷ codes "--base" ∷ codes "--limit" ∷ []) (cond b (codes "--workers" ∷ codes "--connections" ∷ []) (cond c (codes "--limit" ∷ []) [])))
  by true b c = and_more (codes "--admin") (codes "--base" ∷ codes "--limit" ∷ []) refl
      (and_more (codes "--base") (codes "--limit" ∷ []) refl (and_more (codes "--limit") [] refl no_more))
  by false true c = and_more (codes "--workers") (codes "--connections" ∷ []) refl (and_more (codes "--connections") [] refl no_more)
  by false false true = and_more (codes "--limit") [] refl no_more
  by false false false = no_more

-- ---- what a plain line says

found : (name : List ℕ) (parts : List Part) (words : List (List ℕ)) → is_no_option name ≡ false → IsLineOf parts words
    → value_behind name words ≡ value_of name parts
found name parts words dash is = ap (value_behind name) is.line ∙ value_found (options_of words) name parts (options_are words) dash is.plain

pub said_as : (parts : List Part) (words : List (List ℕ)) → IsLineOf parts words
    → said_by (alone false words) (λ name. value_behind name words) ≡ said_by (words_of parts) (λ name. value_of name parts)
said_as parts words is =
    ap (λ ws. said_by ws (λ name. value_behind name words)) (ap (alone false) is.line ∙ alone_of (options_of words) parts (options_are words) is.plain)
    ∙ by (words_of parts)
  where
    by : (ws : List (List ℕ)) → said_by ws (λ name. value_behind name words) ≡ said_by ws (λ name. value_of name parts)
    by [] = refl
    by (name ∷ []) = refl
    by (name ∷ file ∷ []) = rw (found (codes "--admin") parts words refl is, found (codes "--base") parts words refl is, found (codes "--limit") parts words refl is) refl
    by (name ∷ file ∷ second ∷ []) =
        rw (found (codes "--workers") parts words refl is, found (codes "--connections") parts words refl is, found (codes "--limit") parts words refl is) refl
    by (name ∷ file ∷ seed ∷ count ∷ []) = refl
    by (name ∷ file ∷ seed ∷ count ∷ more ∷ rest) = refl

said : (parts : List Part) (c : CommandLine) → ArePartsOf parts c → said_by (words_of parts) (λ name. value_of name parts) ≡ Some c
said parts (init w) is = rw (is.0, is.1, is.2, is.3) refl
said parts (intake file) is = rw is refl
said parts (serve w) is = rw (is.0, is.1, is.2) refl
said parts (load w) is = rw is refl
said parts (migrate w) is = rw (is.0, is.1) refl

init_is : (file : List ℕ) (admin base limit : Option (List ℕ)) (c : CommandLine) → init_with (Some file) admin base limit ≡ Some c
    → (a : List ℕ) × (admin ≡ Some a) × (init (record { file = file; admin = a; base = base; limit = limit }) ≡ c)
init_is file None base limit c e = cc
init_is file (Some a) base limit c e = (a, refl, cc)

serve_is : (file address : List ℕ) (workers connections : Option (List ℕ)) (c : CommandLine) → serve_with (Some file) (Some address) workers connections ≡ Some c
    → (w : List ℕ) × (n : List ℕ) × (workers ≡ Some w) × (connections ≡ Some n) × (serve (record { file = file; address = address; workers = w; connections = n }) ≡ c)
serve_is file address None connections c e = cc
serve_is file address (Some w) None c e = cc
serve_is file address (Some w) (Some n) c e = (w, n, refl, refl, cc)

says : (parts : List Part) (c : CommandLine) → said_by (words_of parts) (λ name. value_of name parts) ≡ Some c → ArePartsOf parts c
says parts c e = by (words_of parts) refl e where
  with_file : (name file : List ℕ) → words_of parts ≡ name ∷ file ∷ [] → (a b : Bool) → bytes_eq name (codes "init") ≡ a → bytes_eq name (codes "intake") ≡ b
      → cond a (init_with (Some file) (value_of (codes "--admin") parts) (value_of (codes "--base") parts) (value_of (codes "--limit") parts)) (cond b (Some (intake file)) None) ≡ Some c
      → ArePartsOf parts c
  with_file name file is true b x y e =
      let i = init_is file (value_of (codes "--admin") parts) (value_of (codes "--base") parts) (value_of (codes "--limit") parts) c e in
      subst (ArePartsOf parts) i.2 (is ∙ ap (λ n. n ∷ file ∷ []) (same name (codes "init") x), i.1, refl, refl)
  with_file name file is false true x y e =
      let c_is : intake file ≡ c = cc in subst (ArePartsOf parts) c_is (is ∙ ap (λ n. n ∷ file ∷ []) (same name (codes "intake") y))
  with_file name file is false false x y e = cc

  with_second : (name file second : List ℕ) → words_of parts ≡ name ∷ file ∷ second ∷ [] → (a b : Bool) → bytes_eq name (codes "serve") ≡ a → bytes_eq name (codes "migrate") ≡ b
      → cond a (serve_with (Some file) (Some second) (value_of (codes "--workers") parts) (value_of (codes "--connections") parts))
      (cond b (migrate_with (Some file) (Some second) (value_of (codes "--limit") parts)) None) ≡ Some c → ArePartsOf parts c
  with_second name file second is true b x y e =
      let i = serve_is file second (value_of (codes "--workers") parts) (value_of (codes "--connections") parts) c e in
      subst (ArePartsOf parts) i.4 (is ∙ ap (λ n. n ∷ file ∷ second ∷ []) (same name (codes "serve") x), i.2, i.3)
  with_second name file second is false true x y e =
      let c_is : migrate (record { old = file; new = second; limit = value_of (codes "--limit") parts }) ≡ c = cc in
      subst (ArePartsOf parts) c_is (is ∙ ap (λ n. n ∷ file ∷ second ∷ []) (same name (codes "migrate") y), refl)
  with_second name file second is false false x y e = cc

  with_seed : (name file seed count : List ℕ) → words_of parts ≡ name ∷ file ∷ seed ∷ count ∷ [] → (a : Bool) → bytes_eq name (codes "load") ≡ a
      → cond a (Some (load (record { file = file; seed = seed; count = count }))) None ≡ Some c → ArePartsOf parts c
  with_seed name file seed count is true x e =
      let c_is : load (record { file = file; seed = seed; count = count }) ≡ c = cc in
      subst (ArePartsOf parts) c_is (is ∙ ap (λ n. n ∷ file ∷ seed ∷ count ∷ []) (same name (codes "load") x))
  with_seed name file seed count is false x e = cc

  by : (ws : List (List ℕ)) → words_of parts ≡ ws → said_by ws (λ name. value_of name parts) ≡ Some c → ArePartsOf parts c
  by [] is e = cc
  by (name ∷ []) is e = cc
  by (name ∷ file ∷ []) is e = with_file name file is (bytes_eq name (codes "init")) (bytes_eq name (codes "intake")) refl refl e
  by (name ∷ file ∷ second ∷ []) is e = with_second name file second is (bytes_eq name (codes "serve")) (bytes_eq name (codes "migrate")) refl refl e
  by (name ∷ file ∷ seed ∷ count ∷ []) is e = with_seed name file seed count is (bytes_eq name (codes "load")) refl e
  by (name ∷ file ∷ seed ∷ count ∷ more ∷ rest) is e = cc

-- ---- what clap gives

given : (m : Option (Text × List Row)) (c : CommandLine) → Gives m c → option_and_then command_in m ≡ Some c
given None c is = absurd is
given (Some f) (init w) is = rw (is.0, is.1, is.2, is.3, is.4) refl
given (Some f) (intake file) is = rw (is.0, is.1) refl
given (Some f) (serve w) is = rw (is.0, is.1, is.2, is.3, is.4) refl
given (Some f) (load w) is = rw (is.0, is.1, is.2, is.3) refl
given (Some f) (migrate w) is = rw (is.0, is.1, is.2, is.3) refl

init_found : (file admin base limit : Option (List ℕ)) (c : CommandLine) → init_with file admin base limit ≡ Some c
    → (f : List ℕ) × (a : List ℕ) × (file ≡ Some f) × (admin ≡ Some a) × (init (record { file = f; admin = a; base = base; limit = limit }) ≡ c)
init_found None admin base limit c e = cc
init_found (Some f) None base limit c e = cc
init_found (Some f) (Some a) base limit c e = (f, a, refl, refl, cc)

intake_found : (file : Option (List ℕ)) (c : CommandLine) → intake_with file ≡ Some c → (f : List ℕ) × (file ≡ Some f) × (intake f ≡ c)
intake_found None c e = cc
intake_found (Some f) c e = (f, refl, cc)

serve_found : (file address workers connections : Option (List ℕ)) (c : CommandLine) → serve_with file address workers connections ≡ Some c
    → (f : List ℕ) × (a : List ℕ) × (w : List ℕ) × (n : List ℕ) × (file ≡ Some f) × (address ≡ Some a) × (workers ≡ Some w) × (connections ≡ Some n)
    × (serve (record { file = f; address = a; workers = w; connections = n }) ≡ c)
serve_found None address workers connections c e = cc
serve_found (Some f) None workers connections c e = cc
serve_found (Some f) (Some a) None connections c e = cc
serve_found (Some f) (Some a) (Some w) None c e = cc
serve_found (Some f) (Some a) (Some w) (Some n) c e = (f, a, w, n, refl, refl, refl, refl, cc)

load_found : (file seed count : Option (List ℕ)) (c : CommandLine) → load_with file seed count ≡ Some c
    → (f : List ℕ) × (s : List ℕ) × (n : List ℕ) × (file ≡ Some f) × (seed ≡ Some s) × (count ≡ Some n) × (load (record { file = f; seed = s; count = n }) ≡ c)
load_found None seed count c e = cc
load_found (Some f) None count c e = cc
load_found (Some f) (Some s) None c e = cc
load_found (Some f) (Some s) (Some n) c e = (f, s, n, refl, refl, refl, cc)

migrate_found : (old new limit : Option (List ℕ)) (c : CommandLine) → migrate_with old new limit ≡ Some c
    → (o : List ℕ) × (n : List ℕ) × (old ≡ Some o) × (new ≡ Some n) × (migrate (record { old = o; new = n; limit = limit }) ≡ c)
migrate_found None new limit c e = cc
migrate_found (Some o) None limit c e = cc
migrate_found (Some o) (Some n) limit c e = (o, n, refl, refl, cc)

gives : (m : Option (Text × List Row)) (c : CommandLine) → option_and_then command_in m ≡ Some c → Gives m c
gives None c e = cc
gives (Some f) c e =
    by (bytes_eq f.0 (codes "init")) (bytes_eq f.0 (codes "intake")) (bytes_eq f.0 (codes "serve")) (bytes_eq f.0 (codes "load")) (bytes_eq f.0 (codes "migrate"))
    refl refl refl refl refl e where
      by : (x y z u v : Bool) → bytes_eq f.0 (codes "init") ≡ x → bytes_eq f.0 (codes "intake") ≡ y → bytes_eq f.0 (codes "serve") ≡ z → bytes_eq f.0 (codes "load") ≡ u
          → bytes_eq f.0 (codes "migrate") ≡ v
          → cond x (init_in f.1) (cond y (intake_in f.1) (cond z (serve_in f.1) (cond u (load_in f.1) (cond v (migrate_in f.1) None)))) ≡ Some c → Gives (Some f) c
      by true y z u v p q r s t e =
          let i = init_found _ _ _ _ c e in subst (Gives (Some f)) i.4 (same f.0 (codes "init") p, i.2, i.3, refl, refl)
      by false true z u v p q r s t e =
          let i = intake_found _ c e in subst (Gives (Some f)) i.2 (same f.0 (codes "intake") q, i.1)
      by false false true u v p q r s t e =
          let i = serve_found _ _ _ _ c e in subst (Gives (Some f)) i.8 (same f.0 (codes "serve") r, i.4, i.5, i.6, i.7)
      by false false false true v p q r s t e =
          let i = load_found _ _ _ c e in subst (Gives (Some f)) i.6 (same f.0 (codes "load") s, i.3, i.4, i.5)
      by false false false false true p q r s t e =
          let i = migrate_found _ _ _ c e in subst (Gives (Some f)) i.4 (same f.0 (codes "migrate") t, i.2, i.3, refl)
      by false false false false false p q r s t e = cc

-- ---- the whole

not_plain : (words : List (List ℕ)) → is_plain (options_of words) false words ≡ false → IsPlain words → ⊥
not_plain words isnt (parts, is) =
    let yes : is_plain (options_of words) false words ≡ true = ap (is_plain (options_of words) false) is.line ∙ plain_line (options_of words) parts (options_are words) is.plain in
    let bad : true ≡ false = sym yes ∙ isnt in cc

pub names : (words : List (List ℕ)) (c : CommandLine) → IsNamed words c → named words ≡ Some c
names words c (inl (parts, is, said_so)) =
    let yes : is_plain (options_of words) false words ≡ true = ap (is_plain (options_of words) false) is.line ∙ plain_line (options_of words) parts (options_are words) is.plain in
    rw yes (said_as parts words is ∙ said parts c said_so)
names words c (inr (other, is)) = by (is_plain (options_of words) false words) refl where
  by : (b : Bool) → is_plain (options_of words) false words ≡ b → cond b (said_by (alone false words) (λ name. value_behind name words)) (taken words) ≡ Some c
  by true plain_so = let p = parts_of (options_of words) words plain_so in absurd (other (p.0, record { line = p.1.0; plain = p.1.1 }))
  by false isnt = rw is.whole (given (subcommand_of program (whole_line words)) c is.gives)

no_fault : {X : Type 0} (xs : List X) → is_nonempty xs ≡ false → xs ≡ []
no_fault [] e = refl
no_fault (x ∷ xs) e = cc

pub is_named : (words : List (List ℕ)) (c : CommandLine) → named words ≡ Some c → IsNamed words c
is_named words c e = by (is_plain (options_of words) false words) refl e where
  by : (b : Bool) → is_plain (options_of words) false words ≡ b → cond b (said_by (alone false words) (λ name. value_behind name words)) (taken words) ≡ Some c → IsNamed words c
  by true plain_so e =
      let p = parts_of (options_of words) words plain_so in
      let is : IsLineOf p.0 words = record { line = p.1.0; plain = p.1.1 } in
      inl (p.0, is, says p.0 c (sym (said_as p.0 words is) ∙ e))
  by false isnt e = inr (not_plain words isnt, by_fault (is_faulty (whole_line words)) refl e) where
    by_fault : (b : Bool) → is_faulty (whole_line words) ≡ b → cond b None (option_and_then command_in (subcommand_of program (whole_line words))) ≡ Some c → IsTaken words c
    by_fault true faulty e = cc
    by_fault false whole e = record { whole = no_fault (fault_of program (whole_line words)) whole; gives = gives (subcommand_of program (whole_line words)) c e }

pub read_as : {E : Type 0} (words : List (List ℕ)) (r : Result (Option ProgramCommand) E) → IfOk r (IsReadAs (named words))
    → IfOk r (λ found. MatchOption found ((c : CommandLine) → IsCommandLine words c → ⊥) (λ read. (c : CommandLine) × IsCommandLine words c × Denotes read c))
read_as words (Err e) read = tt
read_as words (Ok None) read = λ c is. let out : IsReadAs (Some c) None = subst (λ o. IsReadAs o None) (names words c is.0) read in out is.1
read_as words (Ok (Some w)) read = by (named words) refl read where
  by : (o : Option CommandLine) → named words ≡ o → IsReadAs o (Some w) → (c : CommandLine) × IsCommandLine words c × Denotes w c
  by None is read = cc
  by (Some c) is read = (c, (is_named words c is, read.0), read.1)
