use Rattle.lrs_laws.proofs.EditionLaws.{courses_are_editions, courses_count_editions, courses_name_one, editions_are_found, editions_are_numbered, editions_stay, newest_is_last, registrations_keep_their_edition}
use Rattle.lrs_laws.proofs.laws.law_of_editions.Goals as goal

pub returns-clause-numbers : goal.returns-clause-numbers
returns-clause-numbers c = editions_are_numbered

pub returns-clause-found : goal.returns-clause-found
returns-clause-found c = editions_are_found

pub returns-clause-newest : goal.returns-clause-newest
returns-clause-newest c = newest_is_last

pub returns-clause-counts : goal.returns-clause-counts
returns-clause-counts c = courses_count_editions

pub returns-clause-one : goal.returns-clause-one
returns-clause-one c = courses_name_one

pub returns-clause-stay : goal.returns-clause-stay
returns-clause-stay c = editions_stay

pub returns-clause-entries : goal.returns-clause-entries
returns-clause-entries c = courses_are_editions

pub returns-clause-registrations : goal.returns-clause-registrations
returns-clause-registrations c = registrations_keep_their_edition
