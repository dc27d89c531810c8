-- Writes that were looked at.
use Rattle.std.specs.Prelude.{◌≡◌, None, IsTrue}
use Rattle.std.specs.List.{AllByRecursion}
use Rattle.cmi5_course.specs.Rules as course
use Rattle.lrs_json.specs.Fits.{Fits}
use Rattle.lrs_json.specs.View.{view}
use Rattle.lrs_json.specs.declared.tree.Tree.{Tree}
use Rattle.lrs_made.specs.LrsStateFounding.{IsBase}
use Rattle.lrs_made.specs.LrsStateLearners.{is_learner}
use Rattle.lrs_record.specs.declared.entry.Write.{Write}
use Rattle.lrs_record.specs.declared.entry.Write.TheVariants.{Found, Put, Post, Enrol}
use Rattle.lrs_record.specs.declared.entry.Write.TheVariants as write
use Rattle.xapi_statement.specs.Statement.{is_statement}

abbrev pub IsJudgedTree : Tree → Type 0
IsJudgedTree tree = IsTrue (is_statement (view tree))

-- What a store is founded with is an address, the write's statements break no rule and neither does its course, and who
-- is enrolled is a learner.
abbrev pub IsJudged : Write → Type 0
IsJudged (Found admin base) = IsBase base
IsJudged (Put id statement) = IsJudgedTree statement
IsJudged (Post statements) = AllByRecursion IsJudgedTree statements
IsJudged (write.Course tree) = Fits (view tree) × (course.broken_rule (view tree) ≡ None)
IsJudged (Enrol course actor edition) = IsTrue (is_learner actor)
IsJudged other = Unit {0}
