use Rattle.views.specs.Asked.{view_asked}
use Rattle.views.proofs.view.Goals as goal

pub returns-in-PacketView : goal.returns-in-PacketView
unfolding view_asked
returns-in-PacketView c = rw c.in-PacketView.is c.view_in.ensures.bytes

pub returns-in-DatagramView : goal.returns-in-DatagramView
unfolding view_asked
returns-in-DatagramView c = rw c.in-DatagramView.is c.view_in-in-DatagramView.ensures.bytes

pub returns-in-PacketIdView : goal.returns-in-PacketIdView
unfolding view_asked
returns-in-PacketIdView c = rw c.in-PacketIdView.is c.id_view_in.ensures.bytes

pub returns-in-DatagramIdView : goal.returns-in-DatagramIdView
unfolding view_asked
returns-in-DatagramIdView c = rw c.in-DatagramIdView.is c.id_view_in-in-DatagramIdView.ensures.bytes

pub returns-in-LastKnownView : goal.returns-in-LastKnownView
unfolding view_asked
returns-in-LastKnownView c = rw c.in-LastKnownView.is c.last_known_view.ensures.bytes

pub returns-in-CommandText : goal.returns-in-CommandText
unfolding view_asked
returns-in-CommandText c = rw c.in-CommandText.is c.command_text.ensures.bytes
