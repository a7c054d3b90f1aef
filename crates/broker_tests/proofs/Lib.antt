mod Delivery
