use Rattle.std.proofs.Common.{◌≡◌, take, drop}
use Rattle.std.specs.List.{filter}
use Rattle.lrs_decimal.specs.Numbers.{is_digit}
use Rattle.lrs_decimal.specs.Parts.{digits_value, digits_behind}
use Rattle.lrs_decimal.proofs.parts.coefficient.Given as goal

-- with the digits that are left it is the whole number
abbrev pub invariant-loop-byte : goal.invariant-loop-byte
invariant-loop-byte l = digits_value (take l.digits (filter is_digit l.mantissa)) ≡ digits_behind l.value (take l.left (filter is_digit (drop l.byte-index l.mantissa)))
