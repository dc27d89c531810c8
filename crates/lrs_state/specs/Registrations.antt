-- The registrations in the order in which they were made.
use Rattle.std.specs.Prelude.{ℕ, List, Option, map}
use Rattle.lrs_state.specs.Counted.{first_under, list_after}
use Rattle.lrs_state.specs.declared.registrations.HeldRegistration.{HeldRegistration}
use Rattle.lrs_register.specs.Changes.{unchanged}
use Rattle.lrs_register.specs.declared.change.Change.{Change}

abbrev pub registration_key : HeldRegistration → List ℕ
registration_key registration = registration.id

-- the registration of that id
abbrev pub registration_under : List ℕ → List HeldRegistration → Option HeldRegistration
registration_under id registrations = first_under registration_key id registrations

abbrev pub registration_ids : List HeldRegistration → List (List ℕ)
registration_ids registrations = map registration_key registrations

-- ---- what is changed

-- one that comes
abbrev pub RegistrationsChange : Type 0
RegistrationsChange = Change HeldRegistration

abbrev pub unchanged_registrations : RegistrationsChange
unchanged_registrations = unchanged

abbrev pub registrations_after : List HeldRegistration → RegistrationsChange → List HeldRegistration
registrations_after registrations change = list_after registration_key registrations change
