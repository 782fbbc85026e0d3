-- The tables of the code compute to those of the spec.
use Rattle.script_lang.proofs.keys.kind_at.Goals as goal

pub returns-in-Document : goal.returns-in-Document
returns-in-Document c = rw c.in-Document.is c.value_named.ensures

pub returns-in-SimBoard : goal.returns-in-SimBoard
returns-in-SimBoard c = rw c.in-SimBoard.is c.value_named-in-SimBoard.ensures

pub returns-in-UdpBoard : goal.returns-in-UdpBoard
returns-in-UdpBoard c = rw c.in-UdpBoard.is c.value_named-in-UdpBoard.ensures

pub returns-in-Range : goal.returns-in-Range
returns-in-Range c = rw c.in-Range.is c.value_named-in-Range.ensures

pub returns-in-Client : goal.returns-in-Client
returns-in-Client c = rw c.in-Client.is c.value_named-in-Client.ensures
