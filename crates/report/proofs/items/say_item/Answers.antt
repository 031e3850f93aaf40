-- Each way out is a case of the item.
use Rattle.connection.specs.Feeding.{item_refusal}
use Rattle.report.proofs.items.say_item.Goals as goal

pub returns-in-More : goal.returns-in-More
unfolding item_refusal
returns-in-More g c = simp c.in-More.is

pub returns-in-Login : goal.returns-in-Login
unfolding item_refusal
returns-in-Login g c = simp c.in-Login.is

pub returns-in-Some : goal.returns-in-Some
unfolding item_refusal
returns-in-Some g c = simp c.in-Packet.is

pub returns-in_default : goal.returns-in_default
unfolding item_refusal
returns-in_default g c = simp c.in-Packet.is

pub returns-in-Refused : goal.returns-in-Refused
unfolding item_refusal
returns-in-Refused g c = simp c.in-Refused.is c.refuse_item.ensures
