use Rattle.lrs_laws.proofs.PageLaws.{first_pages_are_told, links_go_on, links_stay, links_where_more_comes, pages_end, pages_give_the_list, positions_come_once}
use Rattle.lrs_laws.proofs.laws.law_of_pages.Goals as goal

pub returns-clause-whole : goal.returns-clause-whole
returns-clause-whole c = pages_give_the_list

pub returns-clause-once : goal.returns-clause-once
returns-clause-once c = positions_come_once

pub returns-clause-on : goal.returns-clause-on
returns-clause-on c = links_go_on

pub returns-clause-link : goal.returns-clause-link
returns-clause-link c = links_where_more_comes

pub returns-clause-end : goal.returns-clause-end
returns-clause-end c = pages_end

pub returns-clause-first : goal.returns-clause-first
returns-clause-first c = first_pages_are_told

pub returns-clause-stay : goal.returns-clause-stay
returns-clause-stay c = links_stay
